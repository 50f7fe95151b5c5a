-- A merge in the making, and the segment that it makes.
use Rattle.std.specs.Prelude.{◌≡◌, ◌==◌, ℕ, List, [], ◌∷◌, length, filter, not}
use Rattle.cat_model.specs.Files.{IsFileNumber}
use Rattle.cat_model.specs.Item.{Schema}
use Rattle.cat_model.specs.Merged.{merged_leaf}
use Rattle.cat_model.specs.View.{Leaf}
use Rattle.cat_merge.specs.Merging.{MergeUnderWay}
use Rattle.cat_ledger_laws.specs.shape.Shapes.{MergingShape}

-- the schema of the segments that it takes, and what the ledger's shape has of it
pub record InMaking : Type 0 where
  pub schema : Schema
  pub shape : MergingShape

-- the number and the count are those of the merge, and files may have the number
pub record AreOneMerge (number count : ℕ) (merge : MergeUnderWay) : Type 0 where
  pub same : number ≡ merge.number
  pub many : count ≡ length merge.inputs
  pub numbered : IsFileNumber number

-- the merged segment with those of its rows live that are so at the end, or none where no row was kept
abbrev pub merged_leaves : ℕ → Schema → List Leaf → List Leaf → List Leaf
merged_leaves number schema before after = filter (λ leaf. not (length leaf.segment.rows == 0)) (merged_leaf number schema before after ∷ [])
