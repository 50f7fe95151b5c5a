-- What rows have in a field, as a file lays it out.
use Rattle.std.specs.Prelude.{◌≡◌, ◌<◌, ℕ, List, [], length, map, slice_index_or, Option, Some, All}
use Rattle.cat_model.specs.Item.{Content, Field, Kind, Schema, IsContent}
use Rattle.cat_model.specs.Forms.{IsFormed}
use Rattle.cat_model.specs.Layout.{Laid, laid_as, keywords_of, code_in, ordinal_in}
use Rattle.cat_model.specs.Ordinals.{dictionary_of}
use Rattle.cat_model.specs.Text.{Text}
use Rattle.cat_model.specs.View.{Row}
use Rattle.cat_segment.specs.Contents.{contents_of}
use Rattle.cat_segment.specs.declared.column.Column.{Column}
use Rattle.cat_segment.specs.declared.column.Column.TheVariants.{Text as TextColumn, Keyword, Number, Facet}

-- what the row has in the field of this index among the schema's fields
abbrev pub content_under : ℕ → Row → Content
content_under index row = (slice_index_or row.fields index (record { name = []; content = Content.words [] })).content

-- what each row has in the field of this index
abbrev pub contents_under : ℕ → List Row → List Content
contents_under index rows = map (content_under index) rows

-- one for each row, of the kind and with its forms
pub record AreContents (kind : Kind) (rows : ℕ) (contents : List Content) : Type 0 where
  pub long : length contents ≡ rows
  pub kinds : All (IsContent kind) contents
  pub formed : All IsFormed contents

-- the column of what each row has
abbrev pub laid_out : Kind → List Content → Laid
laid_out kind contents = laid_as kind (map (λ c. Some c) contents)

-- the kind of the fields that have such a column
abbrev pub column_kind : Column → Kind
column_kind (TextColumn words) = Kind.text
column_kind (Keyword keywords) = Kind.keyword
column_kind (Number numbers) = Kind.number
column_kind (Facet labels) = Kind.facet

-- the column as a file lays it out
abbrev pub laid_in : Column → Laid
laid_in column = laid_out (column_kind column) (contents_of column)

-- the column of what rows have in a keyword field
abbrev pub laid_keywords : List (Option Text) → Laid
laid_keywords values = Laid.keywords (keywords_of values) (map (code_in (keywords_of values)) values)

-- the column of what rows have in a facet field
abbrev pub laid_labels : List (List Text) → Laid
laid_labels rows = Laid.labels (dictionary_of rows) (map (map (ordinal_in (dictionary_of rows))) rows)

-- the columns are those that are laid out so, under the fields, for as many rows
pub record AreRead (rows : ℕ) (schema : Schema) (laid : List Laid) (columns : List Column) : Type 0 where
  pub many : length columns ≡ length schema
  pub as_many : length laid ≡ length schema
  pub contents : (index : ℕ) (f : Field) (c : Column) → index < length schema
      → AreContents (slice_index_or schema index f).kind rows (contents_of (slice_index_or columns index c))
  pub spelled : (index : ℕ) (f : Field) (c : Column) (l : Laid) → index < length schema
      → laid_out (slice_index_or schema index f).kind (contents_of (slice_index_or columns index c)) ≡ slice_index_or laid index l
