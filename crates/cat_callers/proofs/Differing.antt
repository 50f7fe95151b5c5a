-- Numbers that rise are different.
use Rattle.std.proofs.Common.{◌≡◌, ◌==◌, ◌||◌, ◌&&◌, ◌<◌, ℕ, Bool, true, false, not, List, [], ◌∷◌, refl, sym, ap, ◌∙◌, arith, Less, nat_cmp}
use Rattle.std.proofs.lemmas.Bool.Decides.{nat_tests}
use Rattle.std.proofs.lemmas.Cmp.{ranked}
use Rattle.std.specs.List.{AllByRecursion}
use Rattle.std.specs.List.Sorted.{IsStrictlySortedBy}
use Rattle.cat_threads.specs.history.Entries.{has_session}
use Rattle.cat_threads.specs.service.Passes.{all_different}

unlike : (x y : ℕ) → nat_cmp x y ≡ Less → (y == x) ≡ false
unlike x y less = let lt : x < y = ranked x y Less (sym less) in grind (arith, nat_tests)

apart : (x : ℕ) (xs : List ℕ) → AllByRecursion (λ y. nat_cmp x y ≡ Less) xs → has_session x xs ≡ false
apart x [] h = refl
apart x (y ∷ ys) h = ap (λ b. b || has_session x ys) (unlike x y h.0) ∙ apart x ys h.1

-- none comes twice
pub differ : (xs : List ℕ) → IsStrictlySortedBy nat_cmp xs → all_different xs ≡ true
unfolding IsStrictlySortedBy
differ [] h = refl
differ (x ∷ xs) h = ap (λ b. not b && all_different xs) (apart x xs h.0) ∙ differ xs h.1
