-- How the window is found: by the segments of one level that stand side by side from each segment on, the last one first.
use Rattle.std.specs.Prelude.{◌≡◌, ℕ, ◌<◌, ◌≤◌, List, length, take, sum, All, Option, Some, None}
use Rattle.cat_model.specs.Window.{IsLevel, IsMergeable, IsFirst}
use Rattle.cat_merge.specs.declared.policy.Run.{Run}
use Rattle.cat_merge.specs.declared.policy.Candidate.{Candidate}

-- all these sizes have this level
abbrev pub AreOfLevel : (factor least level : ℕ) → List ℕ → Type 0
AreOfLevel factor least level sizes = All (λ rows. IsLevel factor least rows level) sizes

-- The sizes begin with so many of one level, at most `factor`, with so many rows together; and with no more of any level,
-- unless that were more than `factor`.
pub record IsMergeRun (factor least : ℕ) (sizes : List ℕ) (run : Run) : Type 0 where
  pub few : run.count ≤ factor
  pub within : run.count ≤ length sizes
  pub level : AreOfLevel factor least run.level (take run.count sizes)
  pub rows : run.rows ≡ sum (take run.count sizes)
  pub longest : (level count : ℕ) → 0 < count → count ≤ factor → count ≤ length sizes → AreOfLevel factor least level (take count sizes)
      → (count ≤ run.count) × (level ≡ run.level)

-- what can be merged from this index on comes first in this candidate, or there is nothing
abbrev pub IsFirstFrom : (factor least : ℕ) → List ℕ → ℕ → Option Candidate → Type 0
IsFirstFrom factor least sizes from None = (level index : ℕ) → from ≤ index → IsMergeable factor least sizes level index → ⊥
IsFirstFrom factor least sizes from (Some c) =
    IsMergeable factor least sizes c.level c.index
    × ((level index : ℕ) → from ≤ index → IsMergeable factor least sizes level index → IsFirst c.level c.index level index)
