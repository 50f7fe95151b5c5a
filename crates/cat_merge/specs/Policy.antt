-- By what segments are chosen for merging: how many a merge takes, and how many rows a segment of the lowest level has at most
-- (mergeFactor and minMergeDocs of LogDocMergePolicy).
use Rattle.std.specs.Prelude.{◌≤◌, ℕ}
use Rattle.cat_model.specs.Limits.{least_factor, greatest_factor, least_minimum, greatest_minimum}

pub record IsMergePolicy (factor minimum : ℕ) : Type 0 where
  pub some : least_factor ≤ factor
  pub few : factor ≤ greatest_factor
  pub positive : least_minimum ≤ minimum
  pub small : minimum ≤ greatest_minimum
