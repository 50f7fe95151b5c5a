-- Which segments the ledger merges: by the policy those of a window (LogDocMergePolicy), or all of them where that is asked for
-- (IndexWriter.forceMerge). When it is of no use to merge all is our own.
use Rattle.std.specs.Prelude.{◌≡◌, ℕ, ◌<◌, ◌≤◌, Bool, false, List, length, map, sum}
use Rattle.std.specs.List.{list_all}
use Rattle.cat_model.specs.Limits.{row_limit}
use Rattle.cat_ledger_laws.specs.model.Portions.{Portion}
use Rattle.cat_ledger_laws.specs.model.Calls.{all_alive}

-- how many segments a merge takes, and how many rows a segment of the lowest level has at most (mergeFactor, minMergeDocs)
pub record MergePolicy : Type 0 where
  pub factor : ℕ
  pub least : ℕ

-- how many rows each portion has, deleted ones counted
abbrev pub sizes_of : List Portion → List ℕ
sizes_of ps = map (λ p. length p.records) ps

-- which of them are live
abbrev pub live_sets_of : List Portion → List (List Bool)
live_sets_of ps = map (λ p. p.live) ps

-- Segments of these sizes and live sets may all be merged into one, and to some use: there are some, one that stands alone has
-- deleted rows, and one segment can hold their rows.
pub record MayBeForced (sizes : List ℕ) (live_sets : List (List Bool)) : Type 0 where
  pub some : 0 < length sizes
  pub useful : length sizes ≡ 1 → list_all all_alive live_sets ≡ false
  pub few : sum sizes ≤ row_limit
