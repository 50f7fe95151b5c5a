use Rattle.std.proofs.Common.{◌≡◌, ℕ, [], ◌++◌, List, length, true, sym, ◌∙◌, subst, append-nil, arith}
use Rattle.std.proofs.lemmas.Bool.Decides.{nat_tests}
use Rattle.std.proofs.lemmas.List.{nil_from_length}
use Rattle.std.specs.Borrow.{Bor}
use Rattle.std.specs.Prelude.{◌==◌}
use Rattle.cat_model.specs.Text.{Text}
use Rattle.cat_columns.specs.Merged.{HaveSame}
use Rattle.cat_columns.proofs.Merged.{if_ok, same_itself, same_read, seen}
use Rattle.cat_columns.proofs.union.joined.Goals as goal

none : (texts : List (Bor Text)) (len : ℕ) → len ≡ length texts → (len == 0) ≡ true → texts ≡ []
none texts len long is =
    let zero : len ≡ 0 = grind (arith, nat_tests) in
    nil_from_length texts (sym long ∙ zero)

pub returns-then-is_empty : goal.returns-then-is_empty
returns-then-is_empty c =
    let empty : c.args.left.items ≡ [] = none c.args.left.items c.args.left.len c.args.left.ok.0 (sym c.is_empty.ensures ∙ c.if-is_empty.true) in
    record { ok = subst (λ (l : List (Bor Text)). HaveSame (seen c.args.right.items) (seen l ++ seen c.args.right.items)) (sym empty) (same_itself (seen c.args.right.items)) }

pub returns-then-is_empty-2 : goal.returns-then-is_empty-2
returns-then-is_empty-2 c =
    let empty : c.args.right.items ≡ [] = none c.args.right.items c.args.right.len c.args.right.ok.0 (sym c.is_empty-2.ensures ∙ c.if-is_empty-2.true) in
    record {
      ok = subst (λ (l : List (Bor Text)). HaveSame (seen c.args.left.items) (seen c.args.left.items ++ seen l)) (sym empty)
          (subst (λ (l : List Text). HaveSame (seen c.args.left.items) l) (sym (append-nil (seen c.args.left.items))) (same_itself (seen c.args.left.items)));
    }

pub returns : goal.returns
returns c = record {
  ok =
      if_ok _ _ (λ v same. same_read v.items c.args.left.items c.deref.result.now c.args.right.items c.deref-2.result.now c.deref.ensures.value c.deref-2.ensures.value same) c.merged.result c.merged.ensures.ok;
}
