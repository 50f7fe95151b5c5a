use Rattle.std.proofs.Common.{◌≡◌, ℤ, Bool, not, Option, ap₂, of_z, rules, sym, to_z, w64, ◌∙◌}
use lib.Signed.{lt_z}
use Rattle.cat_model.specs.Query.{has_some, int_le, open_or}
use Rattle.cat_segment.proofs.number_ranges.is_below.Goals as goal

abbrev before : Option ℤ → Option ℤ → Bool
before low number = has_some (λ n. not (open_or (λ a. int_le a n) low)) number

pub returns-in-Some-Some : goal.returns-in-Some-Some
returns-in-Some-Some c =
    let number = c.in-Some-Some.number in
    let low = c.in-Some-Some.low in
    let read_number : to_z w64 (of_z w64 number) ≡ number = search rules in
    let read_low : to_z w64 (of_z w64 low) ≡ low = search rules in
    let same : lt_z number low ≡ not (int_le low number) = search rules in
    ap₂ lt_z read_number read_low ∙ same ∙ ap₂ before (sym c.in-Some-Some.is-1) (sym c.in-Some-Some.is-0 ∙ c.number_at.ensures)
