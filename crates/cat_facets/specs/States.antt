-- A dimension of segments, and the answers to the reads that count in it.
use Rattle.std.specs.Prelude.{◌≡◌, ℕ, ◌<◌, List, [], length, map, true, slice_index_or, All, IfSome, Result, Ok}
use Rattle.cat_base.specs.declared.refusal.Refusal.{Refusal}
use Rattle.cat_model.specs.Answer.{Found, Read, answer, is_facet_kind}
use Rattle.cat_model.specs.Item.{Record, kind_of}
use Rattle.cat_model.specs.Ordinals.{dictionary_of}
use Rattle.cat_model.specs.Text.{Text}
use Rattle.cat_model.specs.View.{Leaf, Segment, View, Shows}
use Rattle.cat_search.specs.cat_query.declared.query.Query.{Query}
use Rattle.cat_search.specs.cat_query.View.{query_of}
use Rattle.cat_facets.specs.declared.segments.SegmentLabels.{SegmentLabels}
use Rattle.cat_model.specs.GlobalOrdinals.{leaf_dictionary, texts_in_leaf, IsOrdinalMap}
use Rattle.cat_facets.specs.Tallies.{leaf_labels, labelled_count}

-- the segments of a view in order, and a dimension
pub record ReaderState : Type 0 where
  pub segments : List Segment
  pub dimension : Text

-- counts that are asked for over a view: their dimension, and how many of them
pub record WantedCounts : Type 0 where
  pub view : View
  pub dimension : Text
  pub count : ℕ

-- ---- segments

-- a segment as a leaf: what is kept of it doesn't ask which rows are live
abbrev pub as_leaf : Segment → Leaf
as_leaf s = record { segment = s; live = [] }

-- segments as leaves
abbrev pub as_leaves : List Segment → List Leaf
as_leaves segments = map as_leaf segments

-- the labels of all rows of these leaves: the union of their dictionaries
abbrev pub union_in : Text → List Leaf → List Text
union_in dimension leaves = dictionary_of (map (leaf_dictionary dimension) leaves)

-- ---- what is kept

-- the leaf's rows have no texts in the field but labels
abbrev pub HasLabels : Text → Leaf → Type 0
HasLabels dimension leaf = texts_in_leaf dimension leaf ≡ leaf_labels dimension leaf

-- one counts over the field in the leaf's segment
abbrev pub IsFacetIn : Text → Leaf → Type 0
IsFacetIn dimension leaf = is_facet_kind (kind_of leaf.segment.schema dimension) ≡ true

-- what is kept of a segment: the global ordinals of its labels, and, once it was counted, how many of its rows have a label
pub record IsKnown (all : List Text) (rows : List (List Text)) (known : SegmentLabels) : Type 0 where
  pub ordinals : IsOrdinalMap all (dictionary_of rows) known.globals.items
  pub labelled : IfSome known.labelled (λ n. n ≡ labelled_count rows)

-- that is kept of each segment
pub record AreKnown (dimension : Text) (all : List Text) (leaves : List Leaf) (known : List SegmentLabels) : Type 0 where
  pub long : length known ≡ length leaves
  pub each : (i : ℕ) (leaf : Leaf) (d : SegmentLabels) → i < length leaves
      → IsKnown all (leaf_labels dimension (slice_index_or leaves i leaf)) (slice_index_or known i d)

-- what is kept of the dimension of these leaves
pub record IsDimensionKept (dimension : Text) (leaves : List Leaf) (all : List Text) (ordinals : List SegmentLabels) : Type 0 where
  pub texts : All (HasLabels dimension) leaves
  pub labels : all ≡ union_in dimension leaves
  pub known : AreKnown dimension all leaves ordinals

-- what is kept of the dimension of segments
abbrev pub IsState : ReaderState → List Text → List SegmentLabels → Type 0
IsState state all ordinals = IsDimensionKept state.dimension (as_leaves state.segments) all ordinals

-- ---- answers

-- one counts over the field of the name in the view
abbrev pub IsDimensionOf : View → Text → Type 0
IsDimensionOf view dimension = is_facet_kind (kind_of view.schema dimension) ≡ true

-- the answer to the FACETS over records, under the schema of the view
abbrev pub facets_answer_over : View → Text → Query → ℕ → List Record → Result Found Refusal
facets_answer_over view dimension q n rs = answer view.schema rs (Read.facets dimension n (Ok (query_of q)))

-- it is the answer over whatever records the view shows
abbrev pub IsFacetsAnswer : View → Text → Query → ℕ → Result Found Refusal → Type 0
IsFacetsAnswer view dimension q n found = (rs : List Record) → Shows view rs → facets_answer_over view dimension q n rs ≡ found
