-- The file of a segment, `_<n>.seg`, byte by byte. The layout is our own; it holds what Lucene's codec holds in its
-- FieldInfosFormat, PostingsFormat and DocValuesFormat.
use Rattle.std.specs.Prelude.{◌≡◌, ℕ, suc, ℤ, not, List, [], ◌∷◌, ◌++◌, length, map, codes, Option, Some, None, option_to_list}
use Rattle.std.specs.List.{flat_map, prefix_len}
use Rattle.std.specs.Option.{option_map_or}
use Rattle.std.specs.Int.{w64, cast_unsigned}
use Rattle.cat_base.specs.Bytes.{spelled_u32, spelled_u64, spelled_bytes}
use Rattle.cat_model.specs.Text.{Text, same_text}
use Rattle.cat_model.specs.Item.{Content, Field, Kind, content_of, words_in, keyword_in, number_in, labels_in}
use Rattle.cat_model.specs.Ordinals.{dictionary_of, postings_of}
use Rattle.cat_model.specs.Files.{IsFileNumber}
use Rattle.cat_model.specs.View.{Segment, IsSegment, item_in}

-- how many there are, and each
abbrev pub spelled_each : {A : Type 0} → (A → List ℕ) → List A → List ℕ
spelled_each spelled xs = spelled_u32 (length xs) ++ flat_map spelled xs

-- ---- the fields

-- the byte of a kind
abbrev pub kind_byte : Kind → ℕ
kind_byte Kind.text = 1
kind_byte Kind.keyword = 2
kind_byte Kind.number = 3
kind_byte Kind.facet = 4

-- the name and the kind
abbrev pub spelled_field : Field → List ℕ
spelled_field f = spelled_bytes f.name ++ kind_byte f.kind ∷ []

-- ---- the columns: what the rows have in each field

-- the words of rows, each once, with its postings: the indices of the rows that have it
abbrev pub spelled_word_column : List (List Text) → List ℕ
spelled_word_column rows = spelled_each (λ w. spelled_bytes w ++ spelled_each spelled_u32 (postings_of w rows)) (dictionary_of rows)

-- the ordinal of a text of the dictionary: how many texts stand before it
abbrev pub ordinal_in : List Text → Text → ℕ
ordinal_in dictionary text = prefix_len (λ t. not (same_text t text)) dictionary

-- 0 where the row has no text, else the ordinal plus 1
abbrev pub code_in : List Text → Option Text → ℕ
code_in dictionary value = option_map_or (λ text. suc (ordinal_in dictionary text)) value 0

-- the dictionary of the keywords of rows, and the code of each row's keyword
abbrev pub spelled_keyword_column : (dictionary : List Text) → List (Option Text) → List ℕ
spelled_keyword_column dictionary values =
    spelled_each spelled_bytes dictionary ++ flat_map (λ v. spelled_u32 (option_map_or (λ text. suc (ordinal_in dictionary text)) v 0)) values

-- 0 where the row has no number; else 1, and the number in two's complement
abbrev pub spelled_number : Option ℤ → List ℕ
spelled_number None = 0 ∷ []
spelled_number (Some z) = 1 ∷ spelled_u64 (cast_unsigned w64 z)

-- the dictionary of the labels of rows, and the ordinals of each row's labels
abbrev pub spelled_label_column : (dictionary : List Text) → List (List Text) → List ℕ
spelled_label_column dictionary rows =
    spelled_each spelled_bytes dictionary ++ flat_map (λ ls. spelled_each spelled_u32 (map (ordinal_in dictionary) ls)) rows

-- the column of what the rows have in a field of the kind
abbrev pub spelled_contents : Kind → List (Option Content) → List ℕ
spelled_contents Kind.text rows = spelled_word_column (map words_in rows)
spelled_contents Kind.keyword rows = spelled_keyword_column (dictionary_of (map option_to_list (map keyword_in rows))) (map keyword_in rows)
spelled_contents Kind.number rows = flat_map spelled_number (map number_in rows)
spelled_contents Kind.facet rows = spelled_label_column (dictionary_of (map labels_in rows)) (map labels_in rows)

-- ---- the whole

-- the magic word, the version 1, the number, the number of rows, the fields, the rows, each by its number, its id and how long its source
-- is, and the columns in the fields' order
abbrev pub spelled_segment : Segment → List ℕ
spelled_segment s =
    codes "CSEG" ++ (1 ∷ (spelled_u64 s.number ++ (spelled_u32 (length s.rows) ++ (spelled_each spelled_field s.schema
    ++ (flat_map (λ r. spelled_u64 r.number ++ (spelled_bytes r.id ++ spelled_u32 r.length)) s.rows
    ++ flat_map (λ f. spelled_contents f.kind (map (λ r. content_of f.name (item_in r)) s.rows)) s.schema)))))

-- the bytes are those of the segment's file, whose number a name can have
pub record SpellsSegment (bytes : List ℕ) (s : Segment) : Type 0 where
  pub number : IsFileNumber s.number
  pub form : IsSegment s
  pub spelled : bytes ≡ spelled_segment s
