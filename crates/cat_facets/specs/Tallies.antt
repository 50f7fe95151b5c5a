-- How counts by ordinals stand for the rows that have each label.
use Rattle.std.specs.Prelude.{◌≡◌, ℕ, ◌<◌, ◌+◌, Bool, not, cond, ◌==◌, List, [], ◌∷◌, length, map, count_by, slice_index}
use Rattle.std.specs.List.{list_any}
use Rattle.cat_model.specs.Facets.{is_empty}
use Rattle.cat_model.specs.Item.{labels_in, content_of}
use Rattle.cat_model.specs.Ordinals.{text_at}
use Rattle.cat_model.specs.Query.{Query}
use Rattle.cat_model.specs.Text.{Text, same_text}
use Rattle.cat_model.specs.View.{Row, Leaf, item_in}
use Rattle.cat_search.specs.Rows.{leaf_hits}

-- ---- labels

-- the row has the label
abbrev pub has_label : Text → List Text → Bool
has_label label labels = list_any (same_text label) labels

-- how many of these rows have the label
abbrev pub label_count : Text → List (List Text) → ℕ
label_count label rows = count_by (has_label label) rows

-- how many of these rows have a label
abbrev pub labelled_count : List (List Text) → ℕ
labelled_count rows = count_by (λ labels. not (is_empty labels)) rows

-- the labels of a row in a dimension
abbrev pub labels_at : Text → Row → List Text
labels_at dimension row = labels_in (content_of dimension (item_in row))

-- the labels of each row of a leaf, live or dead
abbrev pub leaf_labels : Text → Leaf → List (List Text)
leaf_labels dimension leaf = map (labels_at dimension) leaf.segment.rows

-- the labels of each hit in a leaf
abbrev pub hit_labels : Query → Text → Leaf → List (List Text)
hit_labels q dimension leaf = map (labels_at dimension) (leaf_hits leaf q)

-- ---- ordinals

-- 1 where it is so, else 0
abbrev pub one_if : Bool → ℕ
one_if b = cond b 1 0

-- how often the ordinal is among them
abbrev pub occurrences : ℕ → List ℕ → ℕ
occurrences o ordinals = count_by (λ x. x == o) ordinals

-- the global ordinals of these ordinals
abbrev pub globals_of : List ℕ → List ℕ → List ℕ
globals_of globals ordinals = map (λ o. slice_index globals o) ordinals

-- for each text of the dictionary how many of the rows have it
pub record AreCounts (dictionary : List Text) (rows : List (List Text)) (counts : List ℕ) : Type 0 where
  pub long : length counts ≡ length dictionary
  pub each : (o : ℕ) → o < length dictionary → slice_index counts o ≡ label_count (text_at dictionary o) rows

-- the counts of the ordinals whose global ordinal is this one, added up
abbrev pub sum_at : ℕ → List ℕ → List ℕ → ℕ
sum_at g [] counts = 0
sum_at g (x ∷ xs) [] = 0
sum_at g (x ∷ xs) (c ∷ cs) = cond (x == g) c 0 + sum_at g xs cs
