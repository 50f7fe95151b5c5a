-- The rows of parts, one after another.
use Rattle.std.specs.Prelude.{◌≡◌, ℕ, ◌≤◌, ◌++◌, Bool, false, List, ◌∷◌, All, length, drop}
use Rattle.std.specs.List.{flat_map}
use Rattle.cat_model.specs.RowSets.{has_row}
use Rattle.cat_views.specs.cat_segment.RowParts.{parts_of}
use Rattle.cat_views.specs.cat_segment.declared.row_parts.RowParts.{RowParts}

-- the rows of the parts from this index on
abbrev pub rows_of_parts_from : RowParts → ℕ → List ℕ
rows_of_parts_from parts index = flat_map (λ part. part) (drop index (parts_of parts))

-- the row comes first of these and of those of the parts from this index on, and then come the rest and those of the parts from
-- another index on
pub record IsNextRow (parts : RowParts) (next : ℕ) (left : List ℕ) (row next_then : ℕ) (rest : List ℕ) : Type 0 where
  pub within : next_then ≤ length (parts_of parts)
  pub rows : left ++ rows_of_parts_from parts next ≡ row ∷ (rest ++ rows_of_parts_from parts next_then)

-- what is left of the rows behind some at their head that are no hits
pub record IsBehindMisses (hits : List Bool) (rows left : List ℕ) : Type 0 where
  pub missed : List ℕ
  pub none : All (λ row. has_row hits row ≡ false) missed
  pub cut : rows ≡ missed ++ left
