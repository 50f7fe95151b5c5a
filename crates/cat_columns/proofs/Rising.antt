-- Numbers that rise, said in two ways.
use Rattle.std.proofs.Common.{ℕ, ◌+◌, ◌↔◌, Bool, List, arith, nat_cmp, IsTrue}
use Rattle.std.proofs.lemmas.Map.Keys.{below_from_sorted, sorted_from_strictly_increasing}
use Rattle.std.specs.List.Sorted.{IsStrictlyIncreasing, IsStrictlySortedBy}

pub increasing_from_sorted : (ns : List ℕ) → IsStrictlySortedBy nat_cmp ns → IsStrictlyIncreasing ns
increasing_from_sorted ns sorted k lt = below_from_sorted ns k (k + 1) 0 sorted (omega arith) lt

-- what a test of the one says, a test of the other says
pub increasing_tested : (ns : List ℕ) (b : Bool) → IsTrue b ↔ IsStrictlySortedBy nat_cmp ns → IsTrue b ↔ IsStrictlyIncreasing ns
increasing_tested ns b h = (λ t. increasing_from_sorted ns (h.0 t), λ rise. h.1 (sorted_from_strictly_increasing ns rise))
