-- Hashes of ids: whether numbers differ, as neighbours tell once they are sorted, and that texts do where their hashes do.
use Rattle.std.proofs.Common.{◌≡◌, ◌≢◌, ℕ, ◌+◌, ◌<◌, ◌++◌, Bool, true, false, List, length, get_or, take, map, nat_eq, nat_lt, refl, sym, ◌∙◌, ap, arith, IsTrue}
use Rattle.std.specs.Prelude.{◌↔◌}
use Rattle.std.specs.Cmp.{nat_eq_equiv, unsigned_Decides}
use Rattle.std.specs.List.{AllPairs, IsAllAdjacentAnswer}
use Rattle.std.specs.List.Sorted.{IsPermutation, IsSorted}
use Rattle.std.specs.Ordering.{nat_cmp}
use Rattle.std.proofs.lemmas.Bool.{true≢false, ltb-true, ltb-false}
use Rattle.std.proofs.lemmas.List.{get_or-map, length-map, map-append}
use Rattle.std.proofs.lemmas.List.Kept.{AllPairs-from_increasing}
use Rattle.std.proofs.lemmas.List.Sorted.{IsPermutation-sym, IsNonDecreasingBy-from_sort}
use Rattle.std.proofs.lemmas.Map.Keys.{IsDistinct-IsPermutation}
use Rattle.std.proofs.lemmas.Map.Made.{AllPairs-from_IsDistinct, IsDistinct-from_AllPairs}
use Rattle.std.proofs.lemmas.Simd.{map-map}
use Rattle.cat_model.specs.View.{Row, Leaf, live_rows}
use Rattle.cat_views.specs.cat_segment.Filter.{id_hash}
use Rattle.cat_commits.specs.reading.Judged.{live_ids}
use Rattle.cat_commits.proofs.reading.Known.{ids_more}

-- in another order, numbers that differ do
moved_differ : (xs ys : List ℕ) → IsPermutation xs ys → AllPairs (λ a b. a ≢ b) xs → AllPairs (λ a b. a ≢ b) ys
moved_differ xs ys moved pairs =
    AllPairs-from_IsDistinct unsigned_Decides ys (IsDistinct-IsPermutation nat_eq nat_eq_equiv.symm xs ys moved (IsDistinct-from_AllPairs unsigned_Decides xs pairs))

-- numbers differ just where each is below the next once they are sorted
pub sorted_differ : (xs sorted : List ℕ) → IsPermutation xs sorted → IsSorted nat_cmp sorted → (b : Bool) → IsAllAdjacentAnswer (λ x y r. r ≡ nat_lt x y) sorted b
    → IsTrue b ↔ AllPairs (λ x y. x ≢ y) xs
sorted_differ xs sorted moved rising true rises =
    (λ _. moved_differ sorted xs (IsPermutation-sym xs sorted moved) apart, λ _. refl)
  where
    apart : AllPairs (λ x y. x ≢ y) sorted
    apart i j d lt within same =
        let below = AllPairs-from_increasing sorted (λ k lt. ltb-true _ _ (sym (rises k 0 lt))) i j d lt within in
        omega (arith, below, same)
sorted_differ xs sorted moved rising false level = (
  λ e. absurd (true≢false (sym e)),
  λ pairs.
      let low = IsNonDecreasingBy-from_sort (λ x. x) sorted rising level.0 (level.0 + 1) 0 (omega arith) level.1 in
      let high = ltb-false _ _ (sym (level.2 0)) in
      absurd (moved_differ xs sorted moved pairs level.0 (level.0 + 1) 0 (omega arith) level.1 (omega (arith, low, high))),
)

-- ---- hashes of ids

-- a leaf more
pub hashes_more : (leaves : List Leaf) (i : ℕ) (leaf : Leaf) → i < length leaves → leaf ≡ get_or leaves i leaf
    → map id_hash (live_ids (take (i + 1) leaves)) ≡ map id_hash (live_ids (take i leaves)) ++ map (λ r. id_hash r.id) (live_rows leaf)
hashes_more leaves i leaf lt is =
    ap (map id_hash) (ids_more leaves i leaf lt is) ∙ map-append id_hash (live_ids (take i leaves)) (map (λ (r : Row). r.id) (live_rows leaf))
    ∙ ap (λ l. map id_hash (live_ids (take i leaves)) ++ l) (map-map id_hash (λ (r : Row). r.id) (live_rows leaf))

-- what differs once it is mapped differs
pub mapped_differ : {X Y : Type 0} (f : X → Y) (xs : List X) → AllPairs (λ a b. a ≢ b) (map f xs) → AllPairs (λ a b. a ≢ b) xs
mapped_differ f xs pairs i j d lt within same =
    pairs i j (f d) lt (omega (arith, length-map xs f)) (get_or-map f xs i d (f d) (omega arith) ∙ ap f same ∙ sym (get_or-map f xs j d (f d) within))
