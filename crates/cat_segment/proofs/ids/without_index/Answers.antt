use Rattle.std.proofs.Common.{◌≡◌, refl, Bool, true, false, List, rules, sym, ◌∙◌, IsTrue}
use Rattle.std.specs.Prelude.{◌↔◌, ◌≢◌, []}
use Rattle.std.specs.List.{AllPairs, IsAllAdjacentAnswer}
use Rattle.std.specs.List.Sorted.{IsPermutation, IsSortedBy}
use Rattle.std.proofs.lemmas.Bool.{true≢false}
use Rattle.std.proofs.lemmas.Fn.{always_returns_same}
use Rattle.std.proofs.lemmas.List.Sorted.{IsPermutation-sym}
use Rattle.cat_model.specs.Text.{Text}
use Rattle.cat_segment.proofs.Ordered.{lower, texts_differ, texts_meet, AllPairs-permutation}
use Rattle.cat_segment.proofs.ids.without_index.Goals as goal

told : (ids sorted : List Text) → IsPermutation ids sorted → IsSortedBy lower sorted → (b : Bool) → IsAllAdjacentAnswer (λ x y r. r ≡ lower x y) sorted b → IsTrue b ↔ AllPairs (λ x y. x ≢ y) ids
told ids sorted moved rising true rises =
    (λ _. AllPairs-permutation sorted ids (IsPermutation-sym ids sorted moved) (texts_differ sorted rising (λ k d within. sym (rises k d within))), λ _. refl)
told ids sorted moved rising false level =
    (λ e. absurd (true≢false (sym e)), λ pairs. absurd (texts_meet sorted rising (AllPairs-permutation ids sorted moved pairs) level.0 level.1 (sym (level.2 []))))

pub returns-then-is_sorted_by-clause-due : goal.returns-then-is_sorted_by-clause-due
returns-then-is_sorted_by-clause-due c =
    let answer = c.is_sorted_by.ensures.cases lower (always_returns_same _ _ _ (λ a r f' k. search rules)) in
    let known = told c.args.ids.items c.sort_unstable.new.self.items c.sort_unstable.ensures.permutation c.sort_unstable.ensures.sorted c.is_sorted_by.result (rw c.deref.ensures.value at answer) in
    λ _. known.0 c.if-is_sorted_by.true

pub returns-clause-damaged : goal.returns-clause-damaged
returns-clause-damaged c =
    let answer = c.is_sorted_by.ensures.cases lower (always_returns_same _ _ _ (λ a r f' k. search rules)) in
    let known = told c.args.ids.items c.sort_unstable.new.self.items c.sort_unstable.ensures.permutation c.sort_unstable.ensures.sorted c.is_sorted_by.result (rw c.deref.ensures.value at answer) in
    λ _ pairs. true≢false (sym (known.1 pairs) ∙ c.if-is_sorted_by.false)
