use Rattle.std.proofs.Common.{◌≡◌, take}
use Rattle.cat_facets.specs.Kept.{segment_numbers}
use Rattle.cat_model.specs.View.{segments_of}
use Rattle.cat_facets.proofs.states.numbers_in.Given as goal

abbrev pub invariant-loop-leaf : goal.invariant-loop-leaf
invariant-loop-leaf l = l.numbers.items ≡ segment_numbers (segments_of (take l.leaf-index l.leaves))
