-- The rows of a column in the order of their values, in parts: the rows of one value, behind those of another.
use Rattle.std.specs.Prelude.{◌≡◌, ℕ, List, [], ◌∷◌, ◌++◌, drop, map, reverse, take, Option, Some, None}
use Rattle.std.specs.List.{flat_map}
use Rattle.cat_model.specs.Ordinals.{dictionary_of, texts_of}
use Rattle.cat_model.specs.Text.{Text}
use Rattle.cat_segment.specs.NumberRuns.{parts_from_end}
use Rattle.cat_segment.specs.Valued.{rows_with}
use Rattle.cat_segment.specs.declared.number_runs.NumberRuns.{NumberRuns}
use Rattle.cat_segment.specs.declared.row_parts.RowParts.{RowParts}
use Rattle.cat_segment.specs.declared.row_parts.RowParts.TheVariants.{Whole, Rising, Falling, Runs, AllRuns}

-- the values of rows with these texts, the least first; no text comes last
abbrev pub rising_values : List (Option Text) → List (Option Text)
rising_values values = map Some (dictionary_of (map texts_of values)) ++ None ∷ []

-- the same, the greatest first; no text comes last here too
abbrev pub falling_values : List (Option Text) → List (Option Text)
falling_values values = map Some (reverse (dictionary_of (map texts_of values))) ++ None ∷ []

-- the rows of the stretch, in rising order
abbrev pub rows_of_runs : NumberRuns → List ℕ
rows_of_runs runs = drop runs.from (take runs.to runs.numbers.now.rising.items)

-- the rows behind the stretch
abbrev pub rows_behind : NumberRuns → List ℕ
rows_behind runs = drop runs.to runs.numbers.now.rising.items

-- the parts of the stretch, and behind them this one
abbrev pub parts_of_runs : NumberRuns → List ℕ → List (List ℕ)
parts_of_runs runs last = parts_from_end runs.numbers.now.values (rows_of_runs runs) last

-- the parts
abbrev pub parts_of : RowParts → List (List ℕ)
parts_of (Whole rows) = rows.now ∷ []
parts_of (Rising keywords) = map (rows_with keywords.now) (rising_values keywords.now)
parts_of (Falling keywords) = map (rows_with keywords.now) (falling_values keywords.now)
parts_of (Runs runs) = parts_of_runs runs []
parts_of (AllRuns runs) = parts_of_runs runs (rows_behind runs)

-- the rows of all parts
abbrev pub rows_of_parts : RowParts → List ℕ
rows_of_parts parts = flat_map (λ part. part) (parts_of parts)

-- the rows of the parts before this index
abbrev pub rows_of_parts_before : RowParts → ℕ → List ℕ
rows_of_parts_before parts index = flat_map (λ part. part) (take index (parts_of parts))

-- this row stands last of these
pub record EndsIn (rows : List ℕ) (row : ℕ) : Type 0 where
  pub front : List ℕ
  pub whole : rows ≡ front ++ row ∷ []
