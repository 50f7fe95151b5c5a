use Rattle.std.proofs.Common.{◌≡◌, map, take}
use Rattle.std.specs.Prelude.{All}
use Rattle.cat_model.specs.GlobalOrdinals.{leaf_dictionary}
use Rattle.cat_facets.specs.States.{HasLabels}
use Rattle.cat_facets.proofs.segments.all_labels_in.Given as goal

abbrev pub invariant-loop-leaf : goal.invariant-loop-leaf
invariant-loop-leaf l = record {
  labels : map (λ s. s.now) l.sets.items ≡ map (leaf_dictionary l.dimension) (take l.leaf-index l.leaves);
  texts : All (HasLabels l.dimension) (take l.leaf-index l.leaves);
}
