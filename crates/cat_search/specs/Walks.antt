-- The rows of a segment in the order of a page.
use Rattle.std.specs.Prelude.{◌≡◌, ◌<◌, ◌++◌, ◌&&◌, not, ltb, ℕ, ℤ, Bool, true, false, List, [], filter, length, map, Option, All, AllPairs, IsPermutation, slice_index_or}
use Rattle.std.specs.List.{range_with_len}
use Rattle.cat_model.specs.Query.{Query}
use Rattle.cat_model.specs.RowSets.{has_row}
use Rattle.cat_model.specs.View.{Row, row_matches}
use Rattle.cat_search.specs.Bars.{number_of_key}
use Rattle.cat_search.specs.Pages.{beyond}
use Rattle.cat_search.specs.Standings.{Rank, HitStanding, key_shown, standing_before}

-- the standing of the row of this index, and any past the last one
abbrev pub standing_at : List HitStanding → ℕ → HitStanding
standing_at standings row = slice_index_or standings row (record { rank = Rank.missing; number = 0; id = [] })

-- all rows, each before those that stand behind it
pub record IsWalk (standings : List HitStanding) (walk : List ℕ) : Type 0 where
  pub rows : IsPermutation (range_with_len 0 (length standings)) walk
  pub rising : AllPairs (λ a b. standing_before (standing_at standings a) (standing_at standings b) ≡ true) walk

-- rows of the segment, each before those that stand behind it
pub record IsOrderedRun (standings : List HitStanding) (rows : List ℕ) : Type 0 where
  pub within : All (λ row. row < length standings) rows
  pub rising : AllPairs (λ a b. standing_before (standing_at standings a) (standing_at standings b) ≡ true) rows

-- the rows whose standings pass the test, as they stand in a walk
pub record IsWalkWhere (test : HitStanding → Bool) (standings : List HitStanding) (rows : List ℕ) : Type 0 where
  pub walk : List ℕ
  pub all : IsWalk standings walk
  pub passed : rows ≡ filter (λ row. test (standing_at standings row)) walk

-- the number that the rank goes by, if it goes by one
abbrev pub ranked_number : Rank → Option ℤ
ranked_number rank = number_of_key (key_shown rank)

-- the rows that the query matches, live or dead, as they stand in a walk
pub record AreMatchedRows (q : Query) (segment_rows : List Row) (standings : List HitStanding) (rows : List ℕ) : Type 0 where
  pub walk : List ℕ
  pub all : IsWalk standings walk
  pub matched : rows ≡ filter (has_row (map (row_matches q) segment_rows)) walk

-- what is left of a walk, or of some of its rows, behind rows that the mark doesn't come before
pub record IsRestOfWalk (mark : Option HitStanding) (standings : List HitStanding) (walk left : List ℕ) : Type 0 where
  pub passed : List ℕ
  pub out : All (λ row. beyond mark (standing_at standings row) ≡ false) passed
  pub cut : walk ≡ passed ++ left

-- there is this row, and the mark doesn't come before it
abbrev pub is_passed : Option HitStanding → List HitStanding → ℕ → Bool
is_passed mark standings row = ltb row (length standings) && not (beyond mark (standing_at standings row))
