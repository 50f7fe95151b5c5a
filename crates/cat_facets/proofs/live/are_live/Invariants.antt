use Rattle.std.proofs.Common.{◌≡◌, take}
use Rattle.cat_facets.specs.LiveTotals.{live_sets}
use Rattle.cat_facets.proofs.live.are_live.Given as goal

abbrev pub invariant-loop-index : goal.invariant-loop-index
invariant-loop-index l = take l.index l.live ≡ live_sets (take l.index l.leaves)
