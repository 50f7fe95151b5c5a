-- Counts over the labels of the hits: Lucene's SortedSetDocValuesFacetCounts.getTopChildren. Only the number of hits that
-- have a label at all is our own.
use Rattle.std.specs.Prelude.{ℕ, Bool, true, false, ltb, List, [], ◌∷◌, length, map, count_by}
use Rattle.std.specs.List.{list_any, flat_map}
use Rattle.std.specs.Ordering.{nat_cmp, is_lt, ordering_then}
use Rattle.cat_base.specs.Texts.{sorted_set}
use Rattle.cat_model.specs.Text.{Text, text_cmp, same_text}
use Rattle.cat_model.specs.Item.{Record, content_of, labels_in}
use Rattle.cat_model.specs.Query.{Query}
use Rattle.cat_model.specs.Page.{hits, first_ranked}

-- a label with the number of hits that have it (LabelAndValue)
pub record Counted : Type 0 where
  pub count : ℕ
  pub label : Text

-- how many hits have a label in the dimension, how many different labels they have, and the first counts (FacetResult)
pub record Facets : Type 0 where
  pub matching : ℕ
  pub met : ℕ
  pub counts : List Counted

-- the labels of a record in a dimension
abbrev pub labels_of : Text → Record → List Text
labels_of dim r = labels_in (content_of dim r.item)

-- there is no text in the list, as the code asks
abbrev pub is_empty : List Text → Bool
is_empty [] = true
is_empty (l ∷ ls) = false

-- the labels that the records have, each once, in byte order
abbrev pub labels_met : Text → List Record → List Text
labels_met dim rs = sorted_set (flat_map (labels_of dim) rs)

-- the label with the number of the hits that have it
abbrev pub counted : Text → List Record → Text → Counted
counted dim hs l = record { count = count_by (λ h. list_any (same_text l) (labels_of dim h)) hs; label = l }

-- the greater count comes first, and ties go by bytes
abbrev pub more : Counted → Counted → Bool
more a b = is_lt (ordering_then (nat_cmp b.count a.count) (text_cmp a.label b.label))

-- the counts over these hits, of which the first n are told
abbrev pub facets_of : List Record → Text → ℕ → Facets
facets_of hs dim n = record {
  matching = count_by (λ h. ltb 0 (length (labels_of dim h))) hs;
  met = length (labels_met dim hs);
  counts = first_ranked more (map (counted dim hs) (labels_met dim hs)) n;
}

-- the counts over the hits of the query
abbrev pub facets_in : List Record → Query → Text → ℕ → Facets
facets_in rs q dim n = facets_of (hits rs q) dim n
