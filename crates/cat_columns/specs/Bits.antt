-- Sets of rows as blocks of 64 bits, lowest bit first, seen as one truth value for each row.
use Rattle.std.specs.Prelude.{◌≡◌, ℕ, ◌+◌, ◌-◌, ◌*◌, ◌/◌, ◌%◌, ◌^◌, ◌<◌, ◌≤◌, Bool, false, ◌==◌, List, length, map, filter, slice_index, if◌then◌else◌}
use Rattle.std.proofs.Math.Bool.{beq}
use Rattle.std.specs.Cmp.{IsEquivalence, bool_eq_equiv}
use Rattle.std.specs.Cmp.Lexicographic.{pointwise, lists_equiv}
use Rattle.std.specs.Int.{bit_at}
use Rattle.std.specs.List.{range_with_len}
use Rattle.cat_model.specs.RowSets.{IsPacked}

-- the bit of this index is 1
abbrev pub has_bit : ℕ → ℕ → Bool
has_bit block i = bit_at block i == 1

-- the bit of the row is 1
abbrev pub is_set : List ℕ → ℕ → Bool
is_set blocks row = has_bit (slice_index blocks (row / 64)) (row % 64)

-- the bit of the row is 1, in bytes
abbrev pub has_row_bit : List ℕ → ℕ → Bool
has_row_bit bytes row = has_bit (slice_index bytes (row / 8)) (row % 8)

-- whether each of the first rows is in the set
abbrev pub flags_of : ℕ → List ℕ → List Bool
flags_of len blocks = map (is_set blocks) (range_with_len 0 len)

-- as many blocks as hold the rows, with no bit past the last row
pub record IsBits (len : ℕ) (blocks : List ℕ) : Type 0 where
  pub few : len < 2 ^ 32
  pub long : length blocks ≡ (len + 63) / 64
  pub clear : (row : ℕ) → len ≤ row → is_set blocks row ≡ false

-- the rows of the set from a row on, rising
abbrev pub rows_from : List ℕ → ℕ → List ℕ
rows_from blocks from = filter (is_set blocks) (range_with_len from (64 * length blocks - from))

-- the row is in the set, and of the block at this index only these bits are left
abbrev pub is_left : List ℕ → ℕ → ℕ → ℕ → Bool
is_left blocks index left row = if row / 64 == index then has_bit left (row % 64) else is_set blocks row

-- the rows of these bits of the block at this index and of all blocks behind it, rising
abbrev pub rows_left : List ℕ → ℕ → ℕ → List ℕ
rows_left blocks index left = filter (is_left blocks index left) (range_with_len (64 * index) (64 * length blocks - 64 * index))

-- the first block from a index on that has a row, and its index
pub record IsFirstBlock (blocks : List ℕ) (from index block : ℕ) : Type 0 where
  pub after : from ≤ index
  pub within : index < length blocks
  pub is : slice_index blocks index ≡ block
  pub some : 0 < block
  pub between : (k : ℕ) → from ≤ k → k < index → slice_index blocks k ≡ 0

-- no block from a index on has a row
abbrev pub NoBlockFrom : List ℕ → ℕ → Type 0
NoBlockFrom blocks from = (k : ℕ) → from ≤ k → slice_index blocks k ≡ 0

-- the index of the lowest bit that is 1
pub record IsLowestBit (block index : ℕ) : Type 0 where
  pub within : index < 64
  pub is_in : bit_at block index ≡ 1
  pub below : (i : ℕ) → i < index → bit_at block i ≡ 0

-- no set of as many rows is written as these bytes
abbrev pub HasNoSet : ℕ → List ℕ → Type 0
HasNoSet len bytes = (set : List Bool) → length set ≡ len → IsPacked bytes set → ⊥

-- sets of as many rows, which have the same of them
abbrev pub same_rows : List Bool → List Bool → Bool
same_rows = pointwise beq

pub same_rows_equiv : IsEquivalence same_rows
same_rows_equiv = lists_equiv bool_eq_equiv
