-- The rows of a view as hits, and the columns that rank them.
use Rattle.std.specs.Prelude.{ℕ, List, [], ◌∷◌, filter, map, replicate, Option, Some, None, option_map, find, ◌==◌}
use Rattle.std.specs.Borrow.{Bor}
use Rattle.std.specs.List.{flat_map}
use Rattle.cat_model.specs.Item.{Record}
use Rattle.cat_model.specs.Page as model
use Rattle.cat_model.specs.Page.{key, key_in}
use Rattle.cat_model.specs.Query.{Query}
use Rattle.cat_model.specs.View.{Row, Leaf, item_in, live_rows, row_matches}
use Rattle.cat_views.specs.cat_segment.Contents.{contents_of}
use Rattle.cat_views.specs.cat_segment.declared.column.Column.{Column}
use Rattle.cat_search.specs.declared.sort.Order.{Order}
use Rattle.cat_search.specs.Pages.{rank_with}
use Rattle.cat_search.specs.Sorts.{sort_in}
use Rattle.cat_search.specs.Standings.{HitStanding}

-- the row as a record, without its source
abbrev pub bare_record : Row → Record
bare_record row = record { number = row.number; item = item_in row }

-- the live rows of a leaf that the query matches
abbrev pub leaf_hits : Leaf → Query → List Row
leaf_hits leaf q = filter (row_matches q) (live_rows leaf)

-- the live rows of the leaves that the query matches
abbrev pub hits_in : List Leaf → Query → List Row
hits_in leaves q = filter (row_matches q) (flat_map live_rows leaves)

-- the row of this number, live in some leaf
abbrev pub live_numbered : List Leaf → ℕ → Option Row
live_numbered leaves number = find (λ r. r.number == number) (flat_map live_rows leaves)

-- ---- the standings of rows

-- the standing of a row that has this key
abbrev pub keyed_standing : Order → Option model.Key → Row → HitStanding
keyed_standing o k row = record { rank = rank_with o k; number = row.number; id = row.id }

-- the standing of a row
abbrev pub row_standing : Order → Row → HitStanding
row_standing o row = keyed_standing o (key (sort_in o) (bare_record row)) row

-- the standing of the mark's row, where there is a mark
abbrev pub mark_in_rows : Order → List Row → Option ℕ → Option HitStanding
mark_in_rows o rows None = None
mark_in_rows o rows (Some mark) = option_map (row_standing o) (find (λ r. r.number == mark) rows)

-- the sort keys that so many rows have in the column, and none without one
abbrev pub keys_by : Option (Bor Column) → ℕ → List (Option model.Key)
keys_by None rows = replicate rows None
keys_by (Some column) rows = map (λ x. key_in (Some x)) (contents_of column.now)

-- the standings of rows that have these keys
abbrev pub keyed_standings : Order → List (Option model.Key) → List Row → List HitStanding
keyed_standings o [] rows = []
keyed_standings o (k ∷ ks) [] = []
keyed_standings o (k ∷ ks) (row ∷ rows) = keyed_standing o k row ∷ keyed_standings o ks rows
