-- Which index a segment has.
use Rattle.std.specs.Prelude.{ℕ, suc, cond, ◌==◌, List, [], ◌∷◌, Option, Some, None, option_map}
use Rattle.cat_model.specs.View.{Leaf}

-- the index of the first leaf of this number
abbrev pub index_in : ℕ → List Leaf → Option ℕ
index_in n [] = None
index_in n (leaf ∷ leaves) = cond (leaf.segment.number == n) (Some 0) (option_map suc (index_in n leaves))
