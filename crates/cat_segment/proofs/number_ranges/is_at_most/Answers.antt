use Rattle.std.proofs.Common.{◌≡◌, ℤ, Bool, Option, ap₂, of_z, rules, sym, to_z, w64, ◌∙◌}
use lib.Signed.{le_z}
use Rattle.cat_model.specs.Query.{has_some, int_le, open_or}
use Rattle.cat_segment.proofs.number_ranges.is_at_most.Goals as goal

abbrev up_to : Option ℤ → Option ℤ → Bool
up_to high number = has_some (λ n. open_or (int_le n) high) number

pub returns-in-Some-Some : goal.returns-in-Some-Some
returns-in-Some-Some c =
    let number = c.in-Some-Some.number in
    let high = c.in-Some-Some.high in
    let read_number : to_z w64 (of_z w64 number) ≡ number = search rules in
    let read_high : to_z w64 (of_z w64 high) ≡ high = search rules in
    let same : le_z number high ≡ int_le number high = search rules in
    ap₂ le_z read_number read_high ∙ same ∙ ap₂ up_to (sym c.in-Some-Some.is-1) (sym c.in-Some-Some.is-0 ∙ c.number_at.ensures)

pub returns-in-Some-None : goal.returns-in-Some-None
returns-in-Some-None c = ap₂ up_to (sym c.in-Some-None.is-1) (sym c.in-Some-None.is-0 ∙ c.number_at.ensures)
