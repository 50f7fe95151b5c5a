use Rattle.std.proofs.Common.{◌≡◌, take}
use Rattle.cat_facets.specs.LiveTotals.{live_sets}
use Rattle.cat_facets.proofs.live.live_of.Given as goal

abbrev pub invariant-loop-leaf : goal.invariant-loop-leaf
invariant-loop-leaf l = l.sets.items ≡ live_sets (take l.leaf-index l.leaves)
