use Rattle.std.proofs.Common.{◌≡◌, ℕ, refl, Bool, true, false, List, rules, sym, IsTrue}
use Rattle.std.specs.Prelude.{◌↔◌, ◌≢◌}
use Rattle.std.specs.List.{AllPairs, IsAllAdjacentAnswer}
use Rattle.std.proofs.lemmas.Bool.{true≢false}
use Rattle.std.proofs.lemmas.Fn.{always_returns_same}
use Rattle.cat_model.specs.Text.{Text}
use Rattle.cat_segment.specs.Index.{IsIndex}
use Rattle.cat_segment.proofs.Ordered.{ids_differ, ids_meet, rank}
use Rattle.cat_segment.proofs.ids.Ids.differ.Goals as goal

told : (ids : List Text) (by_id : List ℕ) → IsIndex ids by_id → (b : Bool) → IsAllAdjacentAnswer (λ x y r. r ≡ rank ids x y) by_id b → IsTrue b ↔ AllPairs (λ x y. x ≢ y) ids
told ids by_id is true rises = (λ _. ids_differ ids by_id is (λ k d within. sym (rises k d within)), λ _. refl)
told ids by_id is false level = (λ e. absurd (true≢false (sym e)), λ pairs. absurd (ids_meet ids by_id is pairs level.0 level.1 (sym (level.2 0))))

pub returns : goal.returns
returns c =
    let ids = c.self.inside.ids.items in
    let by_id = c.self.inside.by_id.items in
    let answer = c.is_sorted_by.ensures.cases (rank ids) (always_returns_same _ _ _ (λ a r f' k. search rules)) in
    rw (← c.self.view_is) (told ids by_id c.self.invariant.0 c.is_sorted_by.result (rw c.deref.ensures.value at answer))
