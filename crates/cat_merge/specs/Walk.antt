-- What a merge has passed of its inputs' rows.
use Rattle.std.specs.Prelude.{◌≡◌, ◌≤◌, ℕ, List, [], ◌∷◌, length, map, All, if◌then◌else◌}
use Rattle.cat_model.specs.Item.{Schema}
use Rattle.cat_model.specs.Layout.{Head, head_of}
use Rattle.cat_model.specs.Merged.{rows_of_all, rows_kept}
use Rattle.cat_model.specs.RowSets.{has_row}
use Rattle.cat_model.specs.View.{Leaf, IsSegment}
use Rattle.cat_merge.specs.Copied.{segment_row_at, source_in}
use Rattle.cat_merge.specs.Making.{AreParts}
use Rattle.cat_merge.specs.Merging.{MayMerge}
use Rattle.cat_merge.specs.Places.{input_at, passed_at, IsPlace}
use Rattle.cat_merge.specs.declared.making.Parts.{Parts}
use Rattle.cat_merge.specs.declared.place.Place.{Place}

-- what always holds of inputs
pub record AreInputs (inputs : List Leaf) : Type 0 where
  pub segments : All (λ leaf. IsSegment leaf.segment) inputs
  pub live : All (λ leaf. length leaf.live ≡ length leaf.segment.rows) inputs

-- what is kept of the row of this place beside its columns: nothing, where it wasn't live at the beginning
abbrev pub heads_at : List Leaf → Place → List Head
heads_at inputs place =
    (if has_row (input_at inputs place.input).live place.row then head_of (segment_row_at (input_at inputs place.input).segment place.row) ∷ [] else [])

-- the text that its item came as, where it is kept
abbrev pub source_at : (ℕ → List ℕ) → List Leaf → Place → List ℕ
source_at files inputs place =
    (if has_row (input_at inputs place.input).live place.row then source_in files (input_at inputs place.input).segment place.row else [])

-- of all rows so many are passed, the next is at the place, these are kept of those that were live at the beginning, and these parts
-- are made of all that were so
pub record IsMergeWalk (segment_number : ℕ) (schema : Schema) (inputs : List Leaf) (rows passed : ℕ) (next : Place) (heads : List Head) (made : Parts) : Type 0 where
  pub may : MayMerge segment_number schema inputs
  pub inputs_are : AreInputs inputs
  pub all : rows ≡ length (rows_of_all inputs)
  pub within : passed ≤ rows
  pub place : IsPlace inputs next
  pub so_far : passed_at inputs next ≡ passed
  pub kept : heads ≡ map head_of (rows_kept inputs passed)
  pub parts : AreParts schema inputs made
