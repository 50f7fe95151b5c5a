-- Where a merge stands among the rows of its inputs.
use Rattle.std.specs.Prelude.{◌≡◌, ◌⊎◌, ℕ, ◌+◌, ◌<◌, List, [], length, take, slice_index_or}
use Rattle.cat_model.specs.View.{Leaf}
use Rattle.cat_model.specs.Merged.{rows_of_all}
use Rattle.cat_merge.specs.declared.place.Place.{Place}

-- no segment at all
abbrev pub no_leaf : Leaf
no_leaf = record { segment = record { number = 0; schema = []; rows = [] }; live = [] }

-- the input of this index
abbrev pub input_at : List Leaf → ℕ → Leaf
input_at inputs index = slice_index_or inputs index no_leaf

-- how many rows stand before the place
abbrev pub passed_at : List Leaf → Place → ℕ
passed_at inputs place = length (rows_of_all (take place.input inputs)) + place.row

-- the place of a row
pub record IsRowPlace (inputs : List Leaf) (place : Place) : Type 0 where
  pub input : place.input < length inputs
  pub row : place.row < length (input_at inputs place.input).segment.rows

-- the place of a row, or the one behind the last row
abbrev pub IsPlace : List Leaf → Place → Type 0
IsPlace inputs place = IsRowPlace inputs place ⊎ ((place.input ≡ length inputs) × (place.row ≡ 0))
