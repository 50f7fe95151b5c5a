-- The rows of leaves.
use Rattle.std.specs.Prelude.{ℕ, List, [], ◌∷◌}
use Rattle.std.specs.List.{flat_map}
use Rattle.cat_model.specs.View.{Row, Leaf}

-- the number of the first row
abbrev pub first_in : List Row → ℕ
first_in [] = 0
first_in (row ∷ rows) = row.number

-- the rows of the leaves, live or dead
abbrev pub all_rows : List Leaf → List Row
all_rows leaves = flat_map (λ leaf. leaf.segment.rows) leaves
