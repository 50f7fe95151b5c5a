-- The index of the rows of a segment by their ids.
use Rattle.std.specs.Prelude.{ℕ, List, length}
use Rattle.std.specs.List.{range_with_len}
use Rattle.std.specs.List.Sorted.{IsPermutation, IsSortedByKey}
use Rattle.cat_model.specs.Text.{Text, text_cmp}
use Rattle.cat_model.specs.Ordinals.{text_at}

-- all rows, each once, in any order
abbrev pub AreAllRows : ℕ → List ℕ → Type 0
AreAllRows count rows = IsPermutation (range_with_len 0 count) rows

-- all rows, in byte order of their ids
pub record IsIndex (ids : List Text) (by_id : List ℕ) : Type 0 where
  pub rows : AreAllRows (length ids) by_id
  pub rising : IsSortedByKey (text_at ids) text_cmp by_id
