-- How the parts of a segment's file are read. These are what the private functions are held to; the public contracts speak
-- of what is spelled alone.
use Rattle.std.specs.Prelude.{ℕ, ◌^◌, ℤ, List, [], ◌∷◌, length, map, Option, Some, None, Bool, true, nat_lt, nat_le, ◌==◌, ◌&&◌, if◌then◌else◌}
use Rattle.std.specs.List.{list_all}
use Rattle.std.specs.Int.{w64, cast_signed}
use Rattle.std.specs.Ordering.{is_lt}
use Rattle.cat_model.specs.Text.{Text, text_cmp}
use Rattle.cat_model.specs.Item.{Field, Kind, Schema, is_id, is_field_name}
use Rattle.cat_model.specs.Forms.{is_low_byte, is_plain_byte}
use Rattle.cat_model.specs.Limits.{field_limit, keyword_limit, row_limit, source_limit}
use Rattle.cat_model.specs.Layout.{WordPostings, Laid, Head, Layout}
use Rattle.cat_items.specs.declared.file_parts.lists.Form.{Form}
use Rattle.cat_items.specs.declared.file_parts.lists.Form.TheVariants as forms
use Rattle.cat_items.specs.file_parts.Reading.{Reader, ◌>>=◌, byte_at, u32_at, u64_at, where_at, both_at, many_at, counted_at, tested_text_at}

-- ---- forms, as tests of texts

abbrev pub is_word : Text → Bool
is_word t = nat_lt 0 (length t) && (nat_lt (length t) (2 ^ 32) && list_all is_low_byte t)

abbrev pub is_keyword : Text → Bool
is_keyword t = nat_le (length t) keyword_limit && list_all is_plain_byte t

abbrev pub is_label : Text → Bool
is_label t = nat_lt 0 (length t) && is_keyword t

-- the test of each form
abbrev pub fits : Form → Text → Bool
fits forms.Id = is_id
fits forms.Word = is_word
fits forms.Keyword = is_keyword
fits forms.Label = is_label

-- each text lies below those after it
abbrev pub is_rising : List Text → Bool
is_rising [] = true
is_rising (t ∷ ts) = list_all (λ u. is_lt (text_cmp t u)) ts && is_rising ts

abbrev pub is_schema : Schema → Bool
is_schema fields = nat_le (length fields) field_limit && (is_rising (map (λ f. f.name) fields) && list_all (λ f. is_field_name f.name) fields)

abbrev pub is_number_of_file : ℕ → Bool
is_number_of_file n = nat_lt 0 n && nat_lt n (2 ^ 63)

abbrev pub is_row_count : ℕ → Bool
is_row_count n = nat_le 1 n && nat_le n row_limit

abbrev pub is_write_number : ℕ → Bool
is_write_number n = nat_le 1 n

abbrev pub is_source_length : ℕ → Bool
is_source_length n = nat_le 1 n && nat_le n source_limit

-- ---- fields

unfoldable pub kind_at : Reader Kind
kind_at bytes = do
  b ← byte_at bytes
  if b.0 == 1 then Some (Kind.text, b.1)
      else (if b.0 == 2 then Some (Kind.keyword, b.1)
      else (if b.0 == 3 then Some (Kind.number, b.1)
      else (if b.0 == 4 then Some (Kind.facet, b.1)
      else None)))

-- a name of any form: the names are judged together
unfoldable pub field_at : Reader Field
field_at bytes = both_at (tested_text_at (λ t. true)) (λ name. kind_at) (λ name kind. record { name = name; kind = kind }) bytes

unfoldable pub fields_at : Reader Schema
fields_at bytes = where_at is_schema (counted_at field_at) bytes

-- ---- rows and columns

unfoldable pub head_at : Reader Head
head_at bytes = do
  number ← where_at is_write_number u64_at bytes
  id ← tested_text_at is_id number.1
  long ← where_at is_source_length u32_at id.1
  Some (record { number = number.0; id = id.0; length = long.0 }, long.1)

unfoldable pub list_at : Reader (List ℕ)
list_at bytes = counted_at u32_at bytes

unfoldable pub posted_at : Reader WordPostings
posted_at bytes = both_at (tested_text_at is_word) (λ word. list_at) (λ word rows. record { word = word; rows = rows }) bytes

unfoldable pub cell_at : Reader (Option ℤ)
cell_at bytes = do
  b ← byte_at bytes
  if b.0 == 0 then Some (None, b.1) else (if b.0 == 1 then (u64_at b.1 >>= λ n. Some (Some (cast_signed w64 n.0), n.1)) else None)

unfoldable pub column_at : Kind → ℕ → Reader Laid
column_at Kind.text rows bytes = counted_at posted_at bytes >>= λ words. Some (Laid.words words.0, words.1)
column_at Kind.keyword rows bytes = both_at (counted_at (tested_text_at is_keyword)) (λ dictionary. many_at u32_at rows) Laid.keywords bytes
column_at Kind.number rows bytes = many_at cell_at rows bytes >>= λ cells. Some (Laid.numbers cells.0, cells.1)
column_at Kind.facet rows bytes = both_at (counted_at (tested_text_at is_label)) (λ dictionary. many_at list_at rows) Laid.labels bytes

unfoldable pub columns_at : ℕ → Schema → Reader (List Laid)
columns_at rows [] bytes = Some ([], bytes)
columns_at rows (f ∷ fs) bytes = do
  first ← column_at f.kind rows bytes
  others ← columns_at rows fs first.1
  Some (first.0 ∷ others.0, others.1)

-- ---- the whole

-- CSEG
abbrev pub magic : ℕ
magic = 1129530695

-- the magic word, the version 1, the number and the number of rows
unfoldable pub segment_start_at : Reader (ℕ × ℕ)
segment_start_at bytes = do
  word ← u32_at bytes
  version ← byte_at word.1
  if word.0 == magic && version.0 == 1
      then both_at (where_at is_number_of_file u64_at) (λ number. where_at is_row_count u32_at) (λ number rows. (number, rows)) version.1
      else None

unfoldable pub layout_at : List ℕ → Option Layout
layout_at bytes = do
  start ← segment_start_at bytes
  fields ← fields_at start.1
  heads ← many_at head_at start.0.1 fields.1
  columns ← columns_at start.0.1 fields.0 heads.1
  if length columns.1 == 0 then Some (record { number = start.0.0; schema = fields.0; heads = heads.0; columns = columns.0 }) else None
