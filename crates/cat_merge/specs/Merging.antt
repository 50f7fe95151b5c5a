-- A merge in the making.
use Rattle.std.specs.Prelude.{◌≡◌, ◌≢◌, ◌≤◌, ◌<◌, ℕ, Bool, List, [], ◌∷◌, length, All}
use Rattle.std.specs.List.{flat_map, AllPairs}
use Rattle.cat_model.specs.Files.{IsFileNumber}
use Rattle.cat_model.specs.Item.{Schema}
use Rattle.cat_model.specs.Limits.{row_limit}
use Rattle.cat_model.specs.Merged.{rows_of_all}
use Rattle.cat_model.specs.View.{Leaf, live_rows}

-- the number of the new segment and its fields, the inputs as they were at the beginning, and how many of their rows are
-- passed, dead ones too
pub record MergeUnderWay : Type 0 where
  pub number : ℕ
  pub schema : Schema
  pub inputs : List Leaf
  pub passed : ℕ

-- What may be merged: segments of one schema, with rows that one segment can hold. The numbers of the writes that put them rise
-- over all segments, dead rows too, and the ids of live rows differ, as in a view.
pub record MayMerge (segment_number : ℕ) (schema : Schema) (inputs : List Leaf) : Type 0 where
  pub numbered : IsFileNumber segment_number
  pub schemas : All (λ leaf. leaf.segment.schema ≡ schema) inputs
  pub few : length (rows_of_all inputs) ≤ row_limit
  pub rising : AllPairs (λ a b. a.number < b.number) (rows_of_all inputs)
  pub distinct : AllPairs (λ a b. a.id ≢ b.id) (flat_map live_rows inputs)

-- the same segments with other live sets
abbrev pub with_live : List Leaf → List (List Bool) → List Leaf
with_live [] lives = []
with_live (leaf ∷ leaves) [] = []
with_live (leaf ∷ leaves) (live ∷ lives) = record leaf { live = live } ∷ with_live leaves lives
