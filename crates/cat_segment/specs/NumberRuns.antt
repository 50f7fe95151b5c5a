-- Rows in rising order of their numbers, read from the last one down, run by run of rows with one number.
use Rattle.std.specs.Prelude.{◌≡◌, ◌≤◌, ◌<◌, ◌+◌, ◌-◌, ◌==◌, ◌||◌, ℕ, ℤ, Bool, true, false, not, cond, List, [], ◌∷◌, ◌++◌, length, map}
use Rattle.std.specs.Prelude.{filter, take, slice_index, slice_index_or, is_some, Option, Some, None}
use Rattle.std.specs.List.Sorted.{IsPartitionPoint}
use Rattle.std.specs.List.{range_with_len}
use Rattle.std.specs.Ordering.{int_eq}
use Rattle.cat_model.specs.RowSets.{has_row}

-- both are one number, or none
abbrev pub same_number : Option ℤ → Option ℤ → Bool
same_number (Some a) (Some b) = int_eq a b
same_number (Some a) None = false
same_number None (Some b) = false
same_number None None = true

-- the number of the row at this place
abbrev pub number_at_place : List (Option ℤ) → List ℕ → ℕ → Option ℤ
number_at_place values rows place = slice_index_or values (slice_index rows place) None

-- behind the row at this place stands one with another number
abbrev pub changes_behind : List (Option ℤ) → List ℕ → ℕ → Bool
changes_behind values rows place = not (same_number (number_at_place values rows place) (number_at_place values rows (place + 1)))

-- just these places, of all but the last one, have a row with another number behind theirs
pub record AreRunEnds (values : List (Option ℤ)) (rows : List ℕ) (ends : List Bool) : Type 0 where
  pub long : length ends ≡ length rows
  pub told : (place : ℕ) → place + 1 < length rows → has_row ends place ≡ changes_behind values rows place

-- the row at this place is the last one with its number
abbrev pub ends_run : List (Option ℤ) → List ℕ → ℕ → Bool
ends_run values rows place =
    (place + 1 == length rows) || changes_behind values rows place

-- the rows up to this place that have the number of the row there
abbrev pub run_through : List (Option ℤ) → List ℕ → ℕ → List ℕ
run_through values rows place =
    filter (λ row. same_number (number_at_place values rows place) (slice_index_or values row None)) (take (place + 1) rows)

-- the whole run at the place of its last row, and no row at the other places
abbrev pub run_at : List (Option ℤ) → List ℕ → ℕ → List ℕ
run_at values rows place = cond (ends_run values rows place) (run_through values rows place) []

-- a part for each place, the last one first, and behind them the rows that have no number
abbrev pub parts_from_end : List (Option ℤ) → List ℕ → List ℕ → List (List ℕ)
parts_from_end values rows missing =
    map (λ index. run_at values rows (length rows - 1 - index)) (range_with_len 0 (length rows)) ++ missing ∷ []

-- the run that this place is in ends at that place
pub record EndsRunOf (values : List (Option ℤ)) (rows : List ℕ) (place end : ℕ) : Type 0 where
  pub behind : place ≤ end
  pub within : end < length rows
  pub last : ends_run values rows end ≡ true
  pub same : same_number (number_at_place values rows place) (number_at_place values rows end) ≡ true

-- just so many of the rows, the first, have a number
pub record EndsNumbers (values : List (Option ℤ)) (rows : List ℕ) (count : ℕ) : Type 0 where
  pub within : count ≤ length rows
  pub ends : IsPartitionPoint (λ row. is_some (slice_index_or values row None) ≡ true) (λ row. is_some (slice_index_or values row None) ≡ false) rows count
