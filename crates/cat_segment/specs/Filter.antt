-- Which hashes the ids of a segment have, by two bits of each.
use Rattle.std.specs.Prelude.{◌≡◌, ℕ, ◌*◌, ◌/◌, ◌%◌, ◌^◌, ◌<◌, Bool, true, ◌&&◌, List, length, All}
use Rattle.cat_model.specs.RowSets.{has_row}
use Rattle.cat_model.specs.Text.{Text}
use Rattle.cat_columns.specs.TextHash.{text_hash}

-- the hash of an id
abbrev pub id_hash : Text → ℕ
id_hash id = text_hash id

-- the bit that half a hash leads to
abbrev pub bit_of : ℕ → ℕ → ℕ
bit_of half count = half * count / 2 ^ 32

-- both bits of the hash are set
abbrev pub may_have : List Bool → ℕ → Bool
may_have bits hash = has_row bits (bit_of (hash / 2 ^ 32) (length bits)) && has_row bits (bit_of (hash % 2 ^ 32) (length bits))

-- each id has its bits set
pub record IsFilter (ids : List Text) (bits : List Bool) : Type 0 where
  pub some : 0 < length bits
  pub set : All (λ id. may_have bits (id_hash id) ≡ true) ids
