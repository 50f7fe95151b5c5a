-- What rows have in a field that merged segments have columns of.
use Rattle.std.specs.Prelude.{◌≡◌, ◌≤◌, ◌<◌, ◌^◌, ℕ, ℤ, List, [], length, map, Option, Some, slice_index_or}
use Rattle.std.specs.List.{flat_map}
use Rattle.cat_items.specs.file_parts.Parts.{column_in, IsColumnParts}
use Rattle.cat_items.specs.declared.file_parts.parts.ColumnParts.{ColumnParts}
use Rattle.cat_model.specs.Item.{Content, Field, Kind, Schema, words_in, keyword_in, number_in, labels_in}
use Rattle.cat_model.specs.Ordinals.{dictionary_of, texts_of}
use Rattle.cat_model.specs.Text.{Text}
use Rattle.cat_model.specs.View.{Row, Leaf, live_rows}
use Rattle.cat_views.specs.cat_segment.Laid.{content_under, contents_under, laid_out}

-- the texts by which the field is searched
abbrev pub texts_read : Kind → Content → List Text
texts_read Kind.text c = words_in (Some c)
texts_read Kind.keyword c = texts_of (keyword_in (Some c))
texts_read Kind.number c = []
texts_read Kind.facet c = labels_in (Some c)

-- those of each row
abbrev pub texts_under : Kind → ℕ → List Row → List (List Text)
texts_under kind index rows = map (λ r. texts_read kind (content_under index r)) rows

-- the text of each row of a keyword field
abbrev pub keywords_under : ℕ → List Row → List (Option Text)
keywords_under index rows = map (λ r. keyword_in (Some (content_under index r))) rows

-- the number of each row of a number field
abbrev pub numbers_under : ℕ → List Row → List (Option ℤ)
numbers_under index rows = map (λ r. number_in (Some (content_under index r))) rows

-- the labels of each row of a facet field
abbrev pub labels_under : ℕ → List Row → List (List Text)
labels_under index rows = map (λ r. labels_in (Some (content_under index r))) rows

-- the rows that a merge keeps in the end
abbrev pub kept_rows : List Leaf → List Row
kept_rows inputs = flat_map live_rows inputs

-- the parts lay out what the rows have in the field of this index, whose kind is given
pub record IsMergedColumn (kind : Kind) (index : ℕ) (rows : List Row) (part : ColumnParts) : Type 0 where
  pub cut : IsColumnParts part
  pub laid : column_in part ≡ laid_out kind (contents_under index rows)
  pub words : kind ≡ Kind.text → length (dictionary_of (texts_under Kind.text index rows)) < 2 ^ 32

-- the kind of the field of this index
abbrev pub field_kind_at : ℕ → Leaf → Kind
field_kind_at index leaf = (slice_index_or leaf.segment.schema index (record { name = []; kind = Kind.text })).kind

-- the segment has a field of this index and kind
abbrev pub HasField : Kind → ℕ → Leaf → Type 0
HasField kind index leaf = (index < length leaf.segment.schema) × (field_kind_at index leaf ≡ kind)

-- the texts of all rows of a segment, by which the field is searched
abbrev pub texts_at : ℕ → Leaf → List (List Text)
texts_at index leaf = texts_under (field_kind_at index leaf) index leaf.segment.rows

-- one for each field, in the fields' order
pub record AreMergedColumns (schema : Schema) (rows : List Row) (parts : List ColumnParts) : Type 0 where
  pub many : length parts ≡ length schema
  pub each : (index : ℕ) (f : Field) (p : ColumnParts) → index < length schema
      → IsMergedColumn (slice_index_or schema index f).kind index rows (slice_index_or parts index p)

-- one for each of the first fields
pub record AreFirstColumns (schema : Schema) (rows : List Row) (parts : List ColumnParts) : Type 0 where
  pub many : length parts ≤ length schema
  pub each : (index : ℕ) (f : Field) (p : ColumnParts) → index < length parts
      → IsMergedColumn (slice_index_or schema index f).kind index rows (slice_index_or parts index p)
