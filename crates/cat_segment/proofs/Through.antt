-- How many rows were put up to a number, where the numbers of rows rise.
use Rattle.std.proofs.Common.{◌≡◌, ◌⊎◌, ℕ, ◌<◌, ◌≤◌, List, length, map, get_or, AllPairs, true, false, nat_le, sym, ap, ◌∙◌, subst, inl, inr, arith}
use Rattle.std.specs.List.Sorted.{IsPartitionedBy, IsPartitionPoint}
use Rattle.std.proofs.lemmas.Bool.Decides.{nat_tests}
use Rattle.std.proofs.lemmas.List.{length-map, get_or-map}
use Rattle.cat_model.specs.View.{Row}

up_to : (m n number : ℕ) → m < n → nat_le n number ≡ true → nat_le m number ≡ true
up_to m n number less e = grind (arith, nat_tests)

pub is_up_to : (m number : ℕ) → nat_le m number ≡ true → m ≤ number
is_up_to m number e = grind (arith, nat_tests)

pub is_above : (m number : ℕ) → nat_le m number ≡ false → number < m
is_above m number e = grind (arith, nat_tests)

before_or_at : (i j : ℕ) → i ≤ j → (i < j) ⊎ (i ≡ j)
before_or_at i j le = grind arith

-- rising numbers are parted at each number
pub parted : (xs : List ℕ) (number : ℕ) → AllPairs (λ a b. a < b) xs → IsPartitionedBy (λ n. nat_le n number) xs
parted xs number rises i j d le lt e = elim (before_or_at i j le) [
  | inl less ↦ up_to (get_or xs i d) (get_or xs j d) number (rises i j d less lt) e
  | inr same ↦ subst (λ k. nat_le (get_or xs k d) number ≡ true) (sym same) e
]

module _ (rows : List Row) (numbers : List ℕ) (are : map (λ r. r.number) rows ≡ numbers) where
  number_at : (k : ℕ) (d : Row) (e : ℕ) → k < length rows → get_or numbers k e ≡ (get_or rows k d).number
  number_at k d e lt = ap (λ ns. get_or ns k e) (sym are) ∙ get_or-map (λ r. r.number) rows k d e lt

  as_many : length numbers ≡ length rows
  as_many = ap length (sym are) ∙ length-map rows (λ r. r.number)

  pub numbers_rise : (r : Row) → AllPairs (λ a b. a.number < b.number) rows → AllPairs (λ a b. a < b) numbers
  numbers_rise r rises i j d less lt =
      let up = rises i j r less (omega (arith, as_many)) in
      omega (arith, up, number_at i r d (omega (arith, as_many)), number_at j r d (omega (arith, as_many)))

  pub rows_parted : (number index : ℕ) → index ≤ length numbers → IsPartitionPoint (λ n. n ≤ number) (λ n. number < n) numbers index
      → IsPartitionPoint (λ r. r.number ≤ number) (λ r. number < r.number) rows index
  rows_parted number index bound at = (
    (λ k d from to. subst (λ n. n ≤ number) (number_at k d 0 (omega (arith, as_many))) (at.0 k 0 from to)),
    (λ k d from to. subst (λ n. number < n) (number_at k d 0 to) (at.1 k 0 from (omega (arith, as_many)))),
  )
