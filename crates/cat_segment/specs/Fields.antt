-- What the rows that a segment is made of have in the field of an index among the schema's fields.
use Rattle.std.specs.Prelude.{◌<◌, ◌^◌, ℕ, List, [], Option, Some, None, map, length, option_map, slice_get, All, IfSome}
use Rattle.std.specs.List.{range_with_len}
use Rattle.cat_model.specs.Text.{Text}
use Rattle.cat_model.specs.Item.{Content, Item, Kind, IsContent, Record, words_in}
use Rattle.cat_model.specs.Forms.{IsFormed}
use Rattle.cat_model.specs.Ordinals.{dictionary_of}
use Rattle.cat_model.specs.View.{Row, row_of}
use Rattle.cat_segment.specs.declared.segment.Row as given

-- the record of a row that a segment is made of
abbrev pub row_record : given.Row → Record
row_record r = record { number = r.number; item = r.item.now }

-- the rows of a segment that is made of them
abbrev pub rows_made : List given.Row → List Row
rows_made rows = map (λ r. row_of (row_record r)) rows

-- what the item has in the field of this index
abbrev pub content_in : ℕ → Item → Option Content
content_in index i = option_map (λ p. p.content) (slice_get i.fields index)

-- what each row has in the field of this index
abbrev pub contents_of_rows : ℕ → List given.Row → List (Option Content)
contents_of_rows index rows = map (λ r. content_in index r.item.now) rows

-- what each row has in each of so many fields
abbrev pub contents_by_field : ℕ → List given.Row → List (List (Option Content))
contents_by_field fields rows = map (λ k. contents_of_rows k rows) (range_with_len 0 fields)

-- the item has something in the field, of the field's kind
abbrev pub IsFilled : Kind → Option Content → Type 0
IsFilled kind None = ⊥
IsFilled kind (Some c) = IsContent kind c

-- the texts of a text or facet field: words or labels
abbrev pub content_texts : Option Content → List Text
content_texts None = []
content_texts (Some (Content.words ws)) = ws
content_texts (Some (Content.keyword k)) = []
content_texts (Some (Content.number n)) = []
content_texts (Some (Content.labels ls)) = ls

-- what the item has in the field of this index, if there is one, has its forms
abbrev pub IsFormedIn : ℕ → given.Row → Type 0
IsFormedIn index r = IfSome (content_in index r.item.now) IsFormed

-- what the rows have in the field of this index: it has its forms, and fewer than 2^32 different words
pub record AreFitting (index : ℕ) (rows : List given.Row) : Type 0 where
  pub formed : All (IsFormedIn index) rows
  pub words : length (dictionary_of (map words_in (contents_of_rows index rows))) < 2 ^ 32
