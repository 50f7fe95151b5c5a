-- Dictionaries: the texts of a field of a segment, each under its ordinal, as in Lucene's SortedDocValues (lookupOrd,
-- lookupTerm) and SortedSetDocValues; and where each text stands, as in its Terms and PostingsEnum.
use Rattle.std.specs.Prelude.{◌≡◌, ℕ, ◌<◌, Bool, List, [], length, map, slice_index_or, Option, Some, None, Contains, option_to_list}
use Rattle.std.specs.List.{flat_map, list_any}
use Rattle.cat_base.specs.Texts.{sorted_set}
use Rattle.cat_model.specs.Text.{Text, same_text}
use Rattle.cat_model.specs.RowSets.{indices}

-- the texts that some row has, each once, in byte order
abbrev pub dictionary_of : List (List Text) → List Text
dictionary_of rows = sorted_set (flat_map (λ texts. texts) rows)

-- the text of an ordinal, which is an index in the dictionary
abbrev pub text_at : List Text → ℕ → Text
text_at dictionary ordinal = slice_index_or dictionary ordinal []

-- the ordinal of the text, and none where the dictionary doesn't have it
abbrev pub IsOrdinal : List Text → Text → Option ℕ → Type 0
IsOrdinal dictionary text None = Contains dictionary text → ⊥
IsOrdinal dictionary text (Some ordinal) = (ordinal < length dictionary) × (text_at dictionary ordinal ≡ text)

-- whether each row has the text
abbrev pub rows_having : Text → List (List Text) → List Bool
rows_having text rows = map (list_any (same_text text)) rows

-- the indices of the rows that have the text, rising
abbrev pub postings_of : Text → List (List Text) → List ℕ
postings_of text rows = indices (map (list_any (same_text text)) rows)

-- the text that a row has, as a list of one text or none
abbrev pub texts_of : Option Text → List Text
texts_of text = option_to_list text
