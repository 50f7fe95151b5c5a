-- What the file of a segment is read into, in parts, and the bytes of each part. Nothing to believe: `SegmentFile` says the bytes
-- of the segment itself, and that these are the same is proved (`SegmentsAreSpelledAsLaid`).
use Rattle.std.specs.Prelude.{◌≡◌, ℕ, ◌-◌, ◌<◌, ◌≤◌, ◌^◌, ℤ, true, List, [], ◌∷◌, ◌++◌, length, map, codes, take, drop, Option, IfSome, All}
use Rattle.std.specs.List.{flat_map}
use Rattle.std.specs.Int.{w64}
use Rattle.std.specs.Int.RustNames.{FitsSigned}
use Rattle.cat_base.specs.Bytes.{spelled_u32, spelled_u64, spelled_bytes}
use Rattle.cat_model.specs.Text.{Text}
use Rattle.cat_model.specs.Item.{Content, Field, Kind, Schema, IsSchema, is_id, content_of, words_in, keyword_in, number_in, labels_in}
use Rattle.cat_model.specs.Forms.{IsKeyword, IsLabel, IsWord, IsSourceLength}
use Rattle.cat_model.specs.Ordinals.{dictionary_of, postings_of, texts_of}
use Rattle.cat_model.specs.Files.{IsFileNumber}
use Rattle.cat_model.specs.View.{Row, Segment, item_in}
pub use Rattle.cat_model.specs.SegmentFile.{kind_byte, spelled_each, spelled_field, spelled_number, ordinal_in, code_in, SpellsSegment}
use Rattle.cat_model.specs.Limits.{row_limit}

-- ---- what is laid out

-- the words that rows have in the field of this name
abbrev pub words_of_field : List Row → Text → List Text
words_of_field rows name = dictionary_of (map (λ r. words_in (content_of name (item_in r))) rows)

-- a word, and its postings: the indices of the rows that have it
pub record WordPostings : Type 0 where
  pub word : Text
  pub rows : List ℕ

-- a column, by the kind of its field: words with their postings; a dictionary with a code for each row, as `code_in` says;
-- a number or none for each row; or a dictionary with the ordinals of each row
pub data Laid : Type 0 where
  words : List WordPostings → Laid
  keywords : (dictionary : List Text) (coded : List ℕ) → Laid
  numbers : List (Option ℤ) → Laid
  labels : (dictionary : List Text) (ordinals : List (List ℕ)) → Laid

-- what a file says of a row beside its columns
pub record Head : Type 0 where
  pub number : ℕ
  pub id : Text
  pub length : ℕ

-- a segment as its file has it: its number, the fields, what is said of each row, and the columns in the fields' order
pub record Layout : Type 0 where
  pub number : ℕ
  pub schema : Schema
  pub heads : List Head
  pub columns : List Laid

-- the words of rows, each with its postings
abbrev pub word_postings_of : List (List Text) → List WordPostings
word_postings_of rows = map (λ w. record { word = w; rows = postings_of w rows }) (dictionary_of rows)

-- the dictionary of keywords
abbrev pub keywords_of : List (Option Text) → List Text
keywords_of values = dictionary_of (map texts_of values)

-- the column of what the rows have in a field of the kind
abbrev pub laid_as : Kind → List (Option Content) → Laid
laid_as Kind.text rows = Laid.words (word_postings_of (map words_in rows))
laid_as Kind.keyword rows =
    Laid.keywords (keywords_of (map keyword_in rows)) (map (code_in (keywords_of (map keyword_in rows))) (map keyword_in rows))
laid_as Kind.number rows = Laid.numbers (map number_in rows)
laid_as Kind.facet rows =
    Laid.labels (dictionary_of (map labels_in rows)) (map (map (ordinal_in (dictionary_of (map labels_in rows)))) (map labels_in rows))

-- the column of the field
abbrev pub column_of : List Row → Field → Laid
column_of rows f = laid_as f.kind (map (λ r. content_of f.name (item_in r)) rows)

-- what the file says of the row
abbrev pub head_of : Row → Head
head_of row = record { number = row.number; id = row.id; length = row.length }

-- the layout of a segment
abbrev pub layout_of : Segment → Layout
layout_of s =
    record { number = s.number; schema = s.schema; heads = map head_of s.rows; columns = map (column_of s.rows) s.schema }

-- ---- its bytes

-- the fields
abbrev pub spelled_fields : Schema → List ℕ
spelled_fields = spelled_each spelled_field

-- numbers
abbrev pub spelled_list : List ℕ → List ℕ
spelled_list = spelled_each spelled_u32

-- texts
abbrev pub spelled_texts : List Text → List ℕ
spelled_texts = spelled_each spelled_bytes

-- the number, the id, and how long the source is
abbrev pub spelled_head : Head → List ℕ
spelled_head h = spelled_u64 h.number ++ (spelled_bytes h.id ++ spelled_u32 h.length)

-- the word, and its postings
abbrev pub spelled_postings : WordPostings → List ℕ
spelled_postings p = spelled_bytes p.word ++ spelled_list p.rows

-- a column, by its kind
abbrev pub spelled_column : Laid → List ℕ
spelled_column (Laid.words ps) = spelled_u32 (length ps) ++ flat_map spelled_postings ps
spelled_column (Laid.keywords dictionary coded) = spelled_texts dictionary ++ flat_map spelled_u32 coded
spelled_column (Laid.numbers zs) = flat_map spelled_number zs
spelled_column (Laid.labels dictionary ordinals) = spelled_texts dictionary ++ flat_map spelled_list ordinals

-- the magic word, the version 1, the number, the number of rows, the fields, the rows, the columns
abbrev pub spelled_layout : Layout → List ℕ
spelled_layout l =
    codes "CSEG" ++ (1 ∷ (spelled_u64 l.number ++ (spelled_u32 (length l.heads)
    ++ (spelled_fields l.schema ++ (flat_map spelled_head l.heads ++ flat_map spelled_column l.columns)))))

-- ---- what can be laid out: texts with their forms, numbers that fit, one of each for each row

-- what is said of a row can be said
pub record IsHead (h : Head) : Type 0 where
  pub positive : 1 ≤ h.number
  pub fits : h.number < 2 ^ 64
  pub id : is_id h.id ≡ true
  pub source : IsSourceLength h.length

-- each number fits four bytes, and so does how many they are
abbrev pub FitU32 : List ℕ → Type 0
FitU32 ns = (length ns < 2 ^ 32) × All (λ n. n < 2 ^ 32) ns

-- a word with its form, and postings that fit
pub record IsWordPostings (p : WordPostings) : Type 0 where
  pub word : IsWord p.word
  pub rows : FitU32 p.rows

-- a column of the kind, for as many rows
abbrev pub IsLaid : ℕ → Kind → Laid → Type 0
IsLaid rows Kind.text (Laid.words ps) = (length ps < 2 ^ 32) × All IsWordPostings ps
IsLaid rows Kind.keyword (Laid.keywords dictionary coded) =
    (length dictionary < 2 ^ 32) × All IsKeyword dictionary × (length coded ≡ rows) × FitU32 coded
IsLaid rows Kind.number (Laid.numbers zs) = (length zs ≡ rows) × All (λ z. IfSome z (FitsSigned w64)) zs
IsLaid rows Kind.facet (Laid.labels dictionary ordinals) =
    (length dictionary < 2 ^ 32) × All IsLabel dictionary × (length ordinals ≡ rows) × All FitU32 ordinals
IsLaid rows kind column = ⊥

-- one column for each field, of its kind
abbrev pub AreLaid : ℕ → Schema → List Laid → Type 0
AreLaid rows [] [] = Unit {0}
AreLaid rows (f ∷ fs) (c ∷ cs) = IsLaid rows f.kind c × AreLaid rows fs cs
AreLaid rows fs cs = ⊥

-- 1 to `row_limit` rows under a schema, with their columns, and a number that a name can have
pub record IsLayout (l : Layout) : Type 0 where
  pub number : IsFileNumber l.number
  pub schema : IsSchema l.schema
  pub some : 1 ≤ length l.heads
  pub few : length l.heads ≤ row_limit
  pub heads : All IsHead l.heads
  pub columns : AreLaid (length l.heads) l.schema l.columns

-- ---- pieces of one list, for the proofs of what reads a file

-- the list from `from` to the first end, from there to the next, and so on
abbrev pub pieces : {A : Type 0} → ℕ → List ℕ → List A → List (List A)
pieces from [] xs = []
pieces from (e ∷ es) xs = take (e - from) (drop from xs) ∷ pieces e es xs

-- no end lies below the one before it, the first not below `from`; the last is `total`
abbrev pub AreEnds : ℕ → List ℕ → ℕ → Type 0
AreEnds from [] total = from ≡ total
AreEnds from (e ∷ es) total = (from ≤ e) × AreEnds e es total

-- the words, each with its piece of the rows
abbrev pub paired_postings : List Text → List (List ℕ) → List WordPostings
paired_postings [] lists = []
paired_postings (w ∷ ws) [] = []
paired_postings (w ∷ ws) (rows ∷ lists) = record { word = w; rows = rows } ∷ paired_postings ws lists
