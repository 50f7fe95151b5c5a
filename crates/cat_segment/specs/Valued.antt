-- The rows that have one value.
use Rattle.std.specs.Prelude.{ℕ, Bool, true, false, List, length, filter, Option, Some, None, slice_index_or}
use Rattle.std.specs.List.{range_with_len}
use Rattle.cat_model.specs.Text.{Text, same_text}

-- both are one text, or none
abbrev pub same_value : Option Text → Option Text → Bool
same_value (Some a) (Some b) = same_text a b
same_value (Some a) None = false
same_value None (Some b) = false
same_value None None = true

-- the rows that have just this value, rising
abbrev pub rows_with : List (Option Text) → Option Text → List ℕ
rows_with values value = filter (λ row. same_value value (slice_index_or values row None)) (range_with_len 0 (length values))
