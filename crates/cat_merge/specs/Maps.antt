-- Where the rows of inputs go in a merged segment.
use Rattle.std.specs.Prelude.{ℕ, suc, ◌+◌, Bool, true, false, List, [], ◌∷◌, count_by}
use Rattle.cat_model.specs.View.{Leaf}

-- for each row 0, where it isn't kept, or else its row in the merged segment plus 1; the first that is kept has this row
abbrev pub codes_from : ℕ → List Bool → List ℕ
codes_from first [] = []
codes_from first (true ∷ live) = suc first ∷ codes_from (first + 1) live
codes_from first (false ∷ live) = 0 ∷ codes_from first live

-- the same for each input, where the rows of one stand behind those of the one before it
abbrev pub codes_of : ℕ → List Leaf → List (List ℕ)
codes_of first [] = []
codes_of first (leaf ∷ leaves) = codes_from first leaf.live ∷ codes_of (first + count_by (λ b. b) leaf.live) leaves
