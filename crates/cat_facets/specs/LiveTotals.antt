-- The counts over the live rows of segments.
use Rattle.std.specs.Prelude.{◌≡◌, Bool, List, [], ◌∷◌, map}
use Rattle.std.specs.List.{flat_map}
use Rattle.cat_model.specs.Text.{Text}
use Rattle.cat_model.specs.View.{Leaf, Segment, live_rows}
use Rattle.cat_facets.specs.declared.live.LiveCounts.{LiveCounts}
use Rattle.cat_facets.specs.Tallies.{labels_at, labelled_count, AreCounts}

-- the live sets of leaves
abbrev pub live_sets : List Leaf → List (List Bool)
live_sets leaves = map (λ leaf. leaf.live) leaves

-- segments as leaves of which these rows are live, as far as live sets are told
abbrev pub leaves_with : List Segment → List (List Bool) → List Leaf
leaves_with [] sets = []
leaves_with (s ∷ segments) [] = []
leaves_with (s ∷ segments) (set ∷ sets) = record { segment = s; live = set } ∷ leaves_with segments sets

-- the labels of each live row of a leaf
abbrev pub live_labels : Text → Leaf → List (List Text)
live_labels dimension leaf = map (labels_at dimension) (live_rows leaf)

-- the labels of each row that was counted
abbrev pub counted_labels : Text → List Segment → List (List Bool) → List (List Text)
counted_labels dimension segments sets = flat_map (live_labels dimension) (leaves_with segments sets)

-- these are the counts over the rows of the segments that it tells, at the labels of all rows
pub record AreLiveCounts (dimension : Text) (all : List Text) (segments : List Segment) (kept : LiveCounts) : Type 0 where
  pub labelled : kept.labelled ≡ labelled_count (counted_labels dimension segments kept.live.items)
  pub counts : AreCounts all (counted_labels dimension segments kept.live.items) kept.totals.items
