-- What a segment is made of beside its number, its body, and the rows that the body stands for.
use Rattle.std.specs.Prelude.{◌≡◌, ◌<◌, ◌^◌, ℕ, List, [], ◌∷◌, map, length, slice_index_or, All}
use Rattle.std.specs.List.{range_with_len}
use Rattle.cat_model.specs.Text.{Text}
use Rattle.cat_model.specs.Item.{Content, Schema, FieldContent, IsSchema}
use Rattle.cat_model.specs.View.{Row, AreRows, IsFormedRow}
use Rattle.cat_model.specs.Layout.{words_of_field}
use Rattle.cat_segment.specs.Contents.{contents_of}
use Rattle.cat_segment.specs.declared.column.Column.{Column}
use Rattle.cat_segment.specs.declared.segment.Segment.TheInside.{Inside}

-- what the column says of this row
abbrev pub column_content_at : Column → ℕ → Content
column_content_at column row = slice_index_or (contents_of column) row (Content.words [])

-- what the columns say of this row, each under the name of its field
abbrev pub row_fields_at : Schema → List Column → ℕ → List FieldContent
row_fields_at [] columns row = []
row_fields_at (f ∷ fs) [] row = []
row_fields_at (f ∷ fs) (c ∷ cs) row = record { name = f.name; content = column_content_at c row } ∷ row_fields_at fs cs row

-- the fields, what each row has beside its fields, and a column for each field
pub record Body : Type 0 where
  pub schema : Schema
  pub numbers : List ℕ
  pub ids : List Text
  pub lengths : List ℕ
  pub columns : List Column

-- the body of these parts
abbrev pub body_with : Schema → List ℕ → List Text → List ℕ → List Column → Body
body_with schema numbers ids lengths columns = record { schema = schema; numbers = numbers; ids = ids; lengths = lengths; columns = columns }

abbrev pub body_of : Inside → Body
body_of s = body_with s.schema s.numbers.items s.ids s.sources s.columns.items

-- the row of this index
abbrev pub row_at : Body → ℕ → Row
row_at body row = record {
  number = slice_index_or body.numbers row 0;
  id = slice_index_or body.ids row [];
  fields = row_fields_at body.schema body.columns row;
  length = slice_index_or body.lengths row 0;
}

abbrev pub rows_of : Body → List Row
rows_of body = map (row_at body) (range_with_len 0 (length body.numbers))

-- one of each for each row, one column for each field, and the rows are those of a segment
pub record IsBody (body : Body) : Type 0 where
  pub ids : length body.ids ≡ length body.numbers
  pub lengths : length body.lengths ≡ length body.numbers
  pub columns : length body.columns ≡ length body.schema
  pub contents : All (λ c. length (contents_of c) ≡ length body.numbers) body.columns
  pub schema : IsSchema body.schema
  pub rows : AreRows body.schema (rows_of body)
  pub formed : All IsFormedRow (rows_of body)
  pub words : (name : Text) → length (words_of_field (rows_of body) name) < 2 ^ 32
