-- Segments, which hold rows that never change, and views of them: Lucene's SegmentReader, whose deletions are kept beside
-- it as live documents, and the DirectoryReader of a searcher.
use Rattle.std.specs.Prelude.{◌≡◌, ◌≢◌, ℕ, ◌≤◌, ◌<◌, ◌^◌, Bool, true, false, List, [], ◌∷◌, length, map, take, drop, sum, All, AllPairs}
use Rattle.std.specs.List.{flat_map}
use Rattle.cat_model.specs.Text.{Text}
use Rattle.cat_model.specs.Item.{Schema, FieldContent, Item, Record, AreFields, IsSchema, is_id, content_of, words_in}
use Rattle.cat_model.specs.Forms.{IsFormed}
use Rattle.cat_model.specs.Query.{Query, matches}
use Rattle.cat_model.specs.Files.{Name}
use Rattle.cat_model.specs.Ordinals.{dictionary_of}
use Rattle.cat_model.specs.Limits.{row_limit, source_limit}

-- a row: a record, with the length of its item's source in bytes in place of the source
pub record Row : Type 0 where
  pub number : ℕ
  pub id : Text
  pub fields : List FieldContent
  pub length : ℕ

-- the row of a record
abbrev pub row_of : Record → Row
row_of r = record { number = r.number; id = r.item.id; fields = r.item.fields; length = length r.item.source }

-- the item of a row, without its source, which no query asks for
abbrev pub item_in : Row → Item
item_in row = record { id = row.id; fields = row.fields; source = [] }

-- the row's item matches the query
abbrev pub row_matches : Query → Row → Bool
row_matches q row = matches q (item_in row)

-- a segment: its number, the fields of its rows, and its rows
pub record Segment : Type 0 where
  pub number : ℕ
  pub schema : Schema
  pub rows : List Row

-- 1 to `row_limit` rows with the fields of the schema; their numbers are at least 1 and rise, and their ids differ
pub record AreRows (schema : Schema) (rows : List Row) : Type 0 where
  pub some : 1 ≤ length rows
  pub few : length rows ≤ row_limit
  pub fields : All (λ r. AreFields schema r.fields) rows
  pub positive : All (λ r. 1 ≤ r.number) rows
  pub rising : AllPairs (λ a b. a.number < b.number) rows
  pub distinct : AllPairs (λ a b. a.id ≢ b.id) rows

-- what a row holds has the forms of items
pub record IsFormedRow (row : Row) : Type 0 where
  pub number : row.number < 2 ^ 64
  pub id : is_id row.id ≡ true
  pub source : (1 ≤ row.length) × (row.length ≤ source_limit)
  pub fields : All (λ p. IsFormed p.content) row.fields

-- what always holds of a segment; no field has 2^32 different words
pub record IsSegment (s : Segment) : Type 0 where
  pub schema : IsSchema s.schema
  pub rows : AreRows s.schema s.rows
  pub formed : All IsFormedRow s.rows
  pub words : (name : Text) → length (dictionary_of (map (λ r. words_in (content_of name (item_in r))) s.rows)) < 2 ^ 32

-- ---- views

-- a segment of a view, and which of its rows are live (LeafReader)
pub record Leaf : Type 0 where
  pub segment : Segment
  pub live : List Bool

-- the segments of leaves
abbrev pub segments_of : List Leaf → List Segment
segments_of leaves = map (λ l. l.segment) leaves

-- the other is the segment, if it has the number of it
abbrev pub AgreesWith : Segment → Segment → Type 0
AgreesWith s t = t.number ≡ s.number → t ≡ s

-- what a searcher sees of the catalogue: segments in order, under the number of writes that they take in
pub record View : Type 0 where
  pub schema : Schema
  pub leaves : List Leaf
  pub token : ℕ

-- those for which the set says true
abbrev pub selected : {A : Type 0} → List Bool → List A → List A
selected [] xs = []
selected (b ∷ bs) [] = []
selected (true ∷ bs) (x ∷ xs) = x ∷ selected bs xs
selected (false ∷ bs) (x ∷ xs) = selected bs xs

-- the live rows of a leaf
abbrev pub live_rows : Leaf → List Row
live_rows leaf = selected leaf.live leaf.segment.rows

-- the live rows of a view, in order
abbrev pub rows_in : View → List Row
rows_in view = flat_map live_rows view.leaves

-- The segments have different numbers, the view's schema, and live sets with one value for each row; numbers rise over all
-- rows, dead ones too, and the ids of live rows differ.
pub record IsView (view : View) : Type 0 where
  pub numbers : AllPairs (λ a b. a.segment.number ≢ b.segment.number) view.leaves
  pub schemas : All (λ leaf. leaf.segment.schema ≡ view.schema) view.leaves
  pub live : All (λ leaf. length leaf.live ≡ length leaf.segment.rows) view.leaves
  pub rising : AllPairs (λ a b. a.number < b.number) (flat_map (λ leaf. leaf.segment.rows) view.leaves)
  pub distinct : AllPairs (λ a b. a.id ≢ b.id) (rows_in view)

-- the view shows these records: they are its live rows in order, but for their sources, of which it knows the lengths
abbrev pub Shows : View → List Record → Type 0
Shows view rs = map row_of rs ≡ rows_in view

-- the records of rows, whose sources stand one after the other, from the first byte on
abbrev pub sourced : List Row → List ℕ → List Record
sourced [] bytes = []
sourced (row ∷ rows) bytes =
    record { number = row.number; item = record { id = row.id; fields = row.fields; source = take row.length bytes } }
    ∷ sourced rows (drop row.length bytes)

-- the records of a view, where the files with the sources of its segments hold these bytes, by the numbers of the segments
abbrev pub records_in : (ℕ → List ℕ) → View → List Record
records_in files view = flat_map (λ leaf. selected leaf.live (sourced leaf.segment.rows (files leaf.segment.number))) view.leaves

-- No file is shorter than the sources of its segment's rows, so that each source ends within it. (A shorter one gives
-- sources that are cut off, which no reader may show.)
abbrev pub HoldSources : (ℕ → List ℕ) → View → Type 0
HoldSources files view =
    All (λ leaf. sum (map (λ r. r.length) leaf.segment.rows) ≤ length (files leaf.segment.number)) view.leaves

-- the names of the files that a searcher of the view needs
abbrev pub needs : View → List Name
needs view = flat_map (λ leaf. Name.segment leaf.segment.number ∷ Name.source leaf.segment.number ∷ []) view.leaves
