-- How many rows are live once one is dead.
use Rattle.std.proofs.Common.{◌≡◌, ℕ, ◌+◌, ◌<◌, List, Bool, false, cond, length, slice_set, arith}
use Rattle.std.specs.Prelude.{count_by}
use Rattle.std.proofs.lemmas.List.Sums.{sum_by-set}
use Rattle.cat_model.specs.RowSets.{has_row}

pub count_killed : (set : List Bool) (row : ℕ) → row < length set → count_by (λ b. b) (slice_set set row false) + cond (has_row set row) 1 0 ≡ count_by (λ b. b) set
count_killed set row h = omega (arith, sum_by-set (λ (b : Bool). cond b 1 0) set row false false h)
