use Rattle.std.proofs.Common.{◌≡◌, ℕ, ◌<◌, length, get_or}
use Rattle.cat_model.specs.View.{Leaf}
use Rattle.cat_facets.specs.declared.segments.SegmentLabels.{SegmentLabels}
use Rattle.cat_facets.specs.States.{IsKnown}
use Rattle.cat_facets.specs.Tallies.{leaf_labels}
use Rattle.cat_facets.proofs.segments.all_known.Given as goal

abbrev pub invariant-loop-leaf : goal.invariant-loop-leaf
invariant-loop-leaf l = record {
  long : length l.known.items ≡ l.leaf-index;
  each : (i : ℕ) (leaf : Leaf) (d : SegmentLabels) → i < l.leaf-index → IsKnown l.labels (leaf_labels l.dimension (get_or l.leaves i leaf)) (get_or l.known.items i d);
}
