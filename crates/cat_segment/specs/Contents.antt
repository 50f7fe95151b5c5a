-- What a column says of each row.
use Rattle.std.specs.Prelude.{List, map, Option, Some}
use Rattle.cat_model.specs.Text.{Text}
use Rattle.cat_model.specs.Item.{Content, content_of}
use Rattle.cat_model.specs.View.{Row, item_in}
use Rattle.cat_segment.specs.declared.column.Column.{Column}
use Rattle.cat_segment.specs.declared.column.Column.TheVariants.{Text as TextColumn, Keyword, Number, Facet}

-- what each row has in the field, in the rows' order
abbrev pub contents_of : Column → List Content
contents_of (TextColumn words) = map Content.words words
contents_of (Keyword keywords) = map Content.keyword keywords
contents_of (Number numbers) = map Content.number numbers
contents_of (Facet labels) = map Content.labels labels

-- the same, where each row has something
abbrev pub contents_told : Column → List (Option Content)
contents_told column = map (λ x. Some x) (contents_of column)

-- what each row has in the field of this name
abbrev pub contents_under_name : Text → List Row → List (Option Content)
contents_under_name name rows = map (λ r. content_of name (item_in r)) rows
