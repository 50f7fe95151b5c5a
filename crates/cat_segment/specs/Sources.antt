-- Where texts that stand one after the other end.
use Rattle.std.specs.Prelude.{ℕ, ◌-◌, ◌≤◌, List, [], ◌∷◌, map, take, sum}
use Rattle.cat_model.specs.View.{Row}

-- the lengths of what ends at these offsets, the first of which begins at `from`
abbrev pub lengths_between : ℕ → List ℕ → List ℕ
lengths_between from [] = []
lengths_between from (e ∷ es) = (e - from) ∷ lengths_between e es

-- nothing ends before it begins
abbrev pub Rise : ℕ → List ℕ → Type 0
Rise from [] = Unit {0}
Rise from (e ∷ es) = (from ≤ e) × Rise e es

-- where the text of the row's item begins, after those of the rows before it
abbrev pub source_offset : List Row → ℕ → ℕ
source_offset rows row = sum (map (λ r. r.length) (take row rows))
