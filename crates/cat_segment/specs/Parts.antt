-- The columns that the parts of a file make, and what of the parts is judged first.
use Rattle.std.specs.Prelude.{◌≡◌, ◌≢◌, ◌<◌, ◌≤◌, ℕ, zero, suc, List, [], ◌∷◌, length, All}
use Rattle.std.specs.List.{AllPairs}
use Rattle.cat_items.specs.file_parts.Parts.{column_in, layout_in}
use Rattle.cat_items.specs.declared.file_parts.parts.SegmentParts.{SegmentParts}
use Rattle.cat_items.specs.declared.file_parts.parts.ColumnParts.{ColumnParts}
use Rattle.cat_items.specs.declared.file_parts.parts.ColumnParts.TheVariants as parts
use Rattle.cat_model.specs.Item.{Content, Kind}
use Rattle.cat_model.specs.Layout.{layout_of, pieces}
use Rattle.cat_model.specs.Limits.{label_limit}
use Rattle.cat_model.specs.View.{Segment, IsSegment}
use Rattle.cat_segment.specs.Contents.{contents_of}
use Rattle.cat_segment.specs.Laid.{AreContents, laid_out}
use Rattle.cat_segment.specs.declared.column.Column.{Column}

-- the kind of the fields that have such a column
abbrev pub kind_in : ColumnParts → Kind
kind_in (parts.Text words ends rows) = Kind.text
kind_in (parts.Keyword dictionary codes) = Kind.keyword
kind_in (parts.Number numbers) = Kind.number
kind_in (parts.Facet dictionary ends ordinals) = Kind.facet

-- the column of as many rows is laid out as these parts
pub record IsColumnOf (rows : ℕ) (part : ColumnParts) (column : Column) : Type 0 where
  pub contents : AreContents (kind_in part) rows (contents_of column)
  pub spelled : laid_out (kind_in part) (contents_of column) ≡ column_in part

-- no column of as many rows is laid out as these parts
abbrev pub HasNoColumn : ℕ → ColumnParts → Type 0
HasNoColumn rows part = (contents : List Content) → AreContents (kind_in part) rows contents → laid_out (kind_in part) contents ≢ column_in part

-- each column is laid out as its parts
abbrev pub AreColumnsOf : ℕ → List ColumnParts → List Column → Type 0
AreColumnsOf rows [] [] = Unit {0}
AreColumnsOf rows [] (c ∷ cs) = ⊥
AreColumnsOf rows (p ∷ ps) [] = ⊥
AreColumnsOf rows (p ∷ ps) (c ∷ cs) = IsColumnOf rows p c × AreColumnsOf rows ps cs

-- each row has as few labels as it may
abbrev pub HasFewLabels : ColumnParts → Type 0
HasFewLabels (parts.Text words ends rows) = Unit {0}
HasFewLabels (parts.Keyword dictionary codes) = Unit {0}
HasFewLabels (parts.Number numbers) = Unit {0}
HasFewLabels (parts.Facet dictionary ends ordinals) = All (λ set. length set ≤ label_limit) (pieces 0 ends.items ordinals.items)

-- what is judged before any memory is taken: the numbers of the rows rise, and no row has more labels than it may
pub record IsFit (p : SegmentParts) : Type 0 where
  pub rising : AllPairs (λ a b. a < b) p.numbers.items
  pub labels : All HasFewLabels p.columns.items

-- no segment is laid out as the parts
abbrev pub HasNoSegment : SegmentParts → Type 0
HasNoSegment p = (s : Segment) → IsSegment s → layout_of s ≢ layout_in p

-- the ordinals of a code: none for 0, else that below it
abbrev pub ordinals_of : ℕ → List ℕ
ordinals_of zero = []
ordinals_of (suc ordinal) = ordinal ∷ []
