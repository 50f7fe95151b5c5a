-- What is judged of leaves once they are read, as the code puts it.
use Rattle.std.specs.Prelude.{◌≢◌, ℕ, ◌≤◌, ◌<◌, List, map, All, AllPairs}
use Rattle.std.specs.List.{flat_map}
use Rattle.cat_model.specs.Text.{Text}
use Rattle.cat_model.specs.View.{Leaf, Row, live_rows}

-- numbers of writes rise over all rows, and none is above the token
pub record AreInOrder (token : ℕ) (rows : List Row) : Type 0 where
  pub rising : AllPairs (λ a b. a.number < b.number) rows
  pub seen : All (λ r. r.number ≤ token) rows

-- the ids of the live rows
abbrev pub live_ids : List Leaf → List Text
live_ids leaves = map (λ r. r.id) (flat_map live_rows leaves)

-- they differ
abbrev pub Differ : List Text → Type 0
Differ ids = AllPairs (λ a b. a ≢ b) ids
