-- The file of the live rows of a segment, as a commit writes it (LiveDocsFormat). The layout is our own.
use Rattle.std.specs.Prelude.{◌≡◌, ℕ, ◌<◌, ◌≤◌, Bool, List, ◌∷◌, ◌++◌, length, codes, count_by}
use Rattle.cat_base.specs.Bytes.{spelled_u32, spelled_u64}
use Rattle.cat_model.specs.Files.{IsFileNumber}
use Rattle.cat_model.specs.RowSets.{IsPacked}
use Rattle.cat_model.specs.Limits.{row_limit}

-- the numbers of the segment and of the commit that wrote the file, and which rows are live
pub record LiveRows : Type 0 where
  pub number : ℕ
  pub generation : ℕ
  pub live : List Bool

-- 1 to `row_limit` rows, of which some row isn't live: a segment without deleted rows has no such file
pub record AreLiveRows (rows : LiveRows) : Type 0 where
  pub number : IsFileNumber rows.number
  pub generation : IsFileNumber rows.generation
  pub some : 1 ≤ length rows.live
  pub few : length rows.live ≤ row_limit
  pub dead : count_by (λ b. b) rows.live < length rows.live

-- the bytes are those of the file: the magic word, the version 1, the two numbers, the number of rows, and the set
pub record SpellsLive (bytes : List ℕ) (rows : LiveRows) : Type 0 where
  pub form : AreLiveRows rows
  pub packed : List ℕ
  pub set : IsPacked packed rows.live
  pub spelled : bytes ≡ codes "CLIV" ++ (1 ∷ (spelled_u64 rows.number ++ (spelled_u64 rows.generation ++ (spelled_u32 (length rows.live) ++ packed))))
