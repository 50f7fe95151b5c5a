use Rattle.std.proofs.lemmas.Result.{IfOk-from_err}
use Rattle.std.proofs.Common.{◌≡◌, ℕ, List, [], length, map, true, false, sym, ap, ◌∙◌, arith}
use Rattle.std.specs.Prelude.{◌==◌}
use Rattle.std.proofs.lemmas.Bool.Decides.{nat_tests}
use Rattle.cat_model.specs.Layout.{head_of}
use Rattle.cat_model.specs.Merged.{rows_of_all}
use Rattle.cat_model.specs.View.{Leaf}
use Rattle.cat_merge.specs.Fields.{kept_rows}
use Rattle.cat_merge.proofs.Sealed.{kept_all, none_kept}
use Rattle.cat_merge.proofs.merge.Merge.seal.Goals as goal

is_zero : (n : ℕ) → (n == 0) ≡ true → n ≡ 0
is_zero n e = grind (arith, nat_tests)

not_zero : (n : ℕ) → (n == 0) ≡ false → n ≡ 0 → false ≡ true
not_zero n e f = grind (arith, nat_tests)

pub returns-then-is_empty : goal.returns-then-is_empty
returns-then-is_empty c =
    let end : c.self.inside.passed ≡ length (rows_of_all c.self.inside.inputs.items)
    = ap (λ m. m.passed) c.self.view_is ∙ c.requires ∙ ap (λ m. length (rows_of_all m.inputs)) (sym c.self.view_is) in
    let kept : c.self.inside.kept.items ≡ map head_of (kept_rows c.self.inside.inputs.items)
    = c.self.invariant.kept ∙ ap (map head_of) (kept_all c.self.inside.inputs.items c.self.inside.passed c.self.invariant.inputs_are end) in
    let none : length c.self.inside.kept.items ≡ 0 = sym c.self.inside.kept.ok.0 ∙ is_zero c.self.inside.kept.len (sym c.is_empty.ensures ∙ c.if-is_empty.true) in
    record { ok = ap (λ m. kept_rows m.inputs) (sym c.self.view_is) ∙ none_kept (kept_rows c.self.inside.inputs.items) c.self.inside.kept.items kept none }

pub sealed-requires-clause-kept : goal.sealed-requires-clause-kept
sealed-requires-clause-kept c =
    let end : c.self.inside.passed ≡ length (rows_of_all c.self.inside.inputs.items)
    = ap (λ m. m.passed) c.self.view_is ∙ c.requires ∙ ap (λ m. length (rows_of_all m.inputs)) (sym c.self.view_is) in
    let kept : c.self.inside.kept.items ≡ map head_of (kept_rows c.self.inside.inputs.items)
    = c.self.invariant.kept ∙ ap (map head_of) (kept_all c.self.inside.inputs.items c.self.inside.passed c.self.invariant.inputs_are end) in
    kept ∙ ap (λ (l : List Leaf). map head_of (kept_rows l)) (sym c.deref.ensures.value)

pub sealed-requires-clause-some : goal.sealed-requires-clause-some
sealed-requires-clause-some c = λ none.
    let end : c.self.inside.passed ≡ length (rows_of_all c.self.inside.inputs.items)
    = ap (λ m. m.passed) c.self.view_is ∙ c.requires ∙ ap (λ m. length (rows_of_all m.inputs)) (sym c.self.view_is) in
    let kept : c.self.inside.kept.items ≡ map head_of (kept_rows c.self.inside.inputs.items)
    = c.self.invariant.kept ∙ ap (map head_of) (kept_all c.self.inside.inputs.items c.self.inside.passed c.self.invariant.inputs_are end) in
    let heads : c.self.inside.kept.items ≡ [] = kept ∙ ap (map head_of) (ap kept_rows (sym c.deref.ensures.value) ∙ none) in
    let never : false ≡ true = not_zero c.self.inside.kept.len (sym c.is_empty.ensures ∙ c.if-is_empty.false) (c.self.inside.kept.ok.0 ∙ ap length heads) in
    cc

pub returns-in_err-sealed : goal.returns-in_err-sealed
returns-in_err-sealed c = record { ok = IfOk-from_err _ _ c.from_residual.ensures.0 }
