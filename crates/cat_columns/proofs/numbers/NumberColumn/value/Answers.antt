use Rattle.std.proofs.Common.{ℤ, List, pos, sym, ap, length, arith, ◌∙◌, get_or, Option, Some, None, w64, rules}
use mir.Val.{SFits}
use Rattle.std.proofs.Math.Facts.{to_z-of_z}
use Rattle.std.proofs.lemmas.List.{get_or_default}
use Rattle.cat_columns.specs.Columns.{number_at}
use Rattle.cat_columns.proofs.Presence.{length-numbers, get_or-numbers}
use Rattle.cat_columns.proofs.numbers.NumberColumn.value.Goals as goal

pub contains-requires : goal.contains-requires
contains-requires c = omega (arith, c.requires, c.self.invariant.same, length-numbers _ _ c.self.invariant.same, ap length c.self.view_is)

pub returns-then-contains : goal.returns-then-contains
returns-then-contains c =
    let fits : SFits w64 c.index.result.now = search rules in
    ap (λ (n : ℤ). Some n) (to_z-of_z fits ∙ c.index.ensures ∙ get_or_default c.self.inside.values.items c.args.row c.index.result.now (pos 0) (omega (arith, c.requires, c.self.invariant.same, length-numbers _ _ c.self.invariant.same, ap length c.self.view_is)))
    ∙ ap (λ b. number_at b (get_or c.self.inside.values.items c.args.row (pos 0))) (sym c.if-contains.true ∙ c.contains.ensures)
    ∙ sym (get_or-numbers _ _ c.args.row c.self.invariant.same (omega (arith, c.requires, c.self.invariant.same, length-numbers _ _ c.self.invariant.same, ap length c.self.view_is)))
    ∙ ap (λ (l : List (Option ℤ)). get_or l c.args.row None) c.self.view_is

pub returns-else-contains : goal.returns-else-contains
returns-else-contains c =
    ap (λ b. number_at b (get_or c.self.inside.values.items c.args.row (pos 0))) (sym c.if-contains.false ∙ c.contains.ensures)
    ∙ sym (get_or-numbers _ _ c.args.row c.self.invariant.same (omega (arith, c.requires, c.self.invariant.same, length-numbers _ _ c.self.invariant.same, ap length c.self.view_is)))
    ∙ ap (λ (l : List (Option ℤ)). get_or l c.args.row None) c.self.view_is

pub index-requires : goal.index-requires
index-requires c = omega (arith, c.requires, c.self.invariant.same, c.self.inside.values.ok.0, length-numbers _ _ c.self.invariant.same, ap length c.self.view_is)
