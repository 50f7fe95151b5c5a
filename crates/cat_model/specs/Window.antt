-- Which segments are merged next: a window of adjacent segments of one level, in the manner of Lucene's LogDocMergePolicy
-- (LogMergePolicy.findMerges, mergeFactor, minMergeDocs). How a level is reckoned, and which window is taken, are our own.
use Rattle.std.specs.Prelude.{◌≡◌, ◌⊎◌, ℕ, ◌+◌, ◌*◌, ◌^◌, ◌<◌, ◌≤◌, List, length, take, drop, sum, All, Option, Some, None}
use Rattle.cat_model.specs.Limits.{row_limit}

-- the level of so many rows: the least k for which they are at most `least` times `factor` to the power of k
pub record IsLevel (factor least rows k : ℕ) : Type 0 where
  pub fits : rows ≤ least * factor ^ k
  pub lowest : (j : ℕ) → j < k → least * factor ^ j < rows

-- `factor` adjacent segments of this level from this index on, which have at most `row_limit` rows together
pub record IsMergeable (factor least : ℕ) (sizes : List ℕ) (level index : ℕ) : Type 0 where
  pub within : index + factor ≤ length sizes
  pub levels : All (λ rows. IsLevel factor least rows level) (take factor (drop index sizes))
  pub few : sum (take factor (drop index sizes)) ≤ row_limit

-- the level is lower, or it is the same and the index is no greater
abbrev pub IsFirst : (level index other_level other_index : ℕ) → Type 0
IsFirst level index other_level other_index = (level < other_level) ⊎ ((level ≡ other_level) × (index ≤ other_index))

-- The window of a list of segments, by their sizes in rows, deleted ones counted: none where none can be merged; else the
-- leftmost one of the lowest level.
pub data IsWindow (factor least : ℕ) (sizes : List ℕ) : Option ℕ → Type 0 where
  no_window : ((level index : ℕ) → IsMergeable factor least sizes level index → ⊥) → IsWindow factor least sizes None
  window : (level index : ℕ) → IsMergeable factor least sizes level index
      → ((other_level other_index : ℕ) → IsMergeable factor least sizes other_level other_index → (level < other_level) ⊎ ((level ≡ other_level) × (index ≤ other_index)))
      → IsWindow factor least sizes (Some index)
