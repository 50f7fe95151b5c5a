-- The parts of a segment's file as they lie in memory, and the layout that they are.
use Rattle.std.specs.Prelude.{◌≡◌, ℕ, ◌^◌, ◌<◌, List, [], ◌∷◌, length, map, All, codes, ◌++◌}
use Rattle.cat_base.specs.Bytes.{spelled_u32, spelled_u64}
use Rattle.cat_model.specs.Text.{Text}
use Rattle.cat_model.specs.Layout.{Laid, Head, Layout, AreEnds, pieces, paired_postings}
use Rattle.cat_items.specs.declared.file_parts.parts.ColumnParts.{ColumnParts}
use Rattle.cat_items.specs.declared.file_parts.parts.ColumnParts.TheVariants.{Text as TextParts, Keyword, Number, Facet}
use Rattle.cat_items.specs.declared.file_parts.parts.SegmentParts.{SegmentParts}

-- the rows' heads, part by part
abbrev pub heads_in : List ℕ → List Text → List ℕ → List Head
heads_in (n ∷ ns) (id ∷ ids) (long ∷ longs) = record { number = n; id = id; length = long } ∷ heads_in ns ids longs
heads_in ns ids longs = []

abbrev pub column_in : ColumnParts → Laid
column_in (TextParts words ends rows) = Laid.words (paired_postings words.items (pieces 0 ends.items rows.items))
column_in (Keyword dictionary codes) = Laid.keywords dictionary.items codes.items
column_in (Number numbers) = Laid.numbers numbers.items
column_in (Facet dictionary ends ordinals) = Laid.labels dictionary.items (pieces 0 ends.items ordinals.items)

abbrev pub layout_in : SegmentParts → Layout
layout_in p = record {
  number = p.number;
  schema = p.schema;
  heads = heads_in p.numbers.items p.ids.items p.lengths.items;
  columns = map column_in p.columns.items;
}

-- the ends cut the list into as many pieces as there are words, or ends; they count less than 2^32
abbrev pub IsColumnParts : ColumnParts → Type 0
IsColumnParts (TextParts words ends rows) =
    (length ends.items ≡ length words.items) × AreEnds 0 ends.items (length rows.items) × (length rows.items < 2 ^ 32)
IsColumnParts (Keyword dictionary codes) = Unit {0}
IsColumnParts (Number numbers) = Unit {0}
IsColumnParts (Facet dictionary ends ordinals) = AreEnds 0 ends.items (length ordinals.items) × (length ordinals.items < 2 ^ 32)

pub record IsParts (p : SegmentParts) : Type 0 where
  pub ids : length p.ids.items ≡ length p.numbers.items
  pub lengths : length p.lengths.items ≡ length p.numbers.items
  pub columns : All IsColumnParts p.columns.items

-- how the file begins: the magic word, the version 1, the number and the number of rows
abbrev pub spelled_start : ℕ → ℕ → List ℕ
spelled_start number rows = codes "CSEG" ++ (1 ∷ (spelled_u64 number ++ spelled_u32 rows))
