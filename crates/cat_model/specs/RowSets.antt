-- Sets of the rows of a segment, with one truth value for each row, in the rows' order: Lucene's FixedBitSet and DocIdSet.
use Rattle.std.specs.Prelude.{◌≡◌, ℕ, ◌+◌, ◌*◌, ◌/◌, ◌%◌, ◌<◌, Bool, false, not, ◌&&◌, ◌||◌, ◌==◌, List, [], ◌∷◌, length, map, filter, slice_index, slice_index_or, All}
use Rattle.std.specs.Int.{bit_at}
use Rattle.std.specs.List.{list_any, range_with_len}

-- the two sets, row by row
abbrev pub joined : (Bool → Bool → Bool) → List Bool → List Bool → List Bool
joined f [] ys = []
joined f (x ∷ xs) [] = []
joined f (x ∷ xs) (y ∷ ys) = f x y ∷ joined f xs ys

-- the row is in both sets
abbrev pub both : Bool → Bool → Bool
both a b = a && b

-- the row is in some of the two sets
abbrev pub either : Bool → Bool → Bool
either a b = a || b

-- the row is in the first set alone
abbrev pub first_only : Bool → Bool → Bool
first_only a b = a && not b

-- the row of this index is in the set
abbrev pub has_row : List Bool → ℕ → Bool
has_row set row = slice_index_or set row false

-- the indices of the rows that are in the set, rising from 0
abbrev pub indices : List Bool → List ℕ
indices set = filter (has_row set) (range_with_len 0 (length set))

-- the set, and the rows of these indices too
abbrev pub with_rows : List ℕ → List Bool → List Bool
with_rows rows set = map (λ row. has_row set row || list_any (λ r. r == row) rows) (range_with_len 0 (length set))

-- The set as bytes: as few as have a bit for each row. The row r is in byte r / 8, at the bit of value 2 to the power of
-- r % 8; the bits past the last row are 0. (After FixedBitSet, whose bits stand in longs.)
pub record IsPacked (packed : List ℕ) (set : List Bool) : Type 0 where
  pub long : length packed ≡ (length set + 7) / 8
  pub bytes : All (λ b. b < 256) packed
  pub bits : (row : ℕ) → row < 8 * length packed → (bit_at (slice_index packed (row / 8)) (row % 8) == 1) ≡ has_row set row
