-- Lists that rise, by what tests each element and the next.
use Rattle.std.proofs.Common.{◌≡◌, ◌+◌, Bool, true, false, IsTrue, List, [], ◌∷◌, refl, sym, ap, ◌∙◌, arith, Ordering, Less, Equal, Greater}
use Rattle.std.proofs.lemmas.Bool.{true≢false}
use Rattle.std.proofs.lemmas.Map.Keys.{sorted_from_all_adjacent, Less-from_sorted}
use Rattle.std.specs.Cmp.{IsTotalOrder}
use Rattle.std.specs.List.{IsAllAdjacentAnswer}
use Rattle.std.specs.List.Sorted.{IsStrictlySortedBy}
use Rattle.std.specs.Ordering.{is_lt}
use Rattle.std.specs.Prelude.{◌↔◌}

is_less : (r : Ordering) → is_lt r ≡ true → r ≡ Less
is_less Less e = refl
is_less Equal e = absurd (true≢false (sym e))
is_less Greater e = absurd (true≢false (sym e))

none_rises : {K : Type 0} (R : K → K → Ordering) → IsStrictlySortedBy R []
unfolding IsStrictlySortedBy
none_rises R = tt

-- what a test of each element and the next answers
pub rising_from_answer : {K : Type 0} {R : K → K → Ordering} → IsTotalOrder R → (xs : List K) (r : Bool) → IsAllAdjacentAnswer (λ x y b. b ≡ is_lt (R x y)) xs r → IsTrue r ↔ IsStrictlySortedBy R xs
rising_from_answer {K} {R} total [] true h = (λ _. none_rises R, λ _. refl)
rising_from_answer total [] false h = absurd (let at = h.1 in omega arith)
rising_from_answer total (d ∷ xs) true h = (λ _. sorted_from_all_adjacent total (d ∷ xs) d (λ k lt. is_less _ (sym (h k d lt))), λ _. refl)
rising_from_answer {K} {R} total (d ∷ xs) false h = (
  λ e. absurd (true≢false (sym e)),
  λ sorted. absurd (true≢false (sym (ap is_lt (Less-from_sorted R (d ∷ xs) h.0 (h.0 + 1) d sorted (omega arith) h.1)) ∙ sym (h.2 d))),
)
