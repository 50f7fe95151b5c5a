use Rattle.std.proofs.Common.{◌≡◌, map, take}
use Rattle.cat_ledger.specs.Stats.{segment_stat}
use Rattle.cat_ledger.proofs.telling.segments_of.Given as goal

abbrev pub invariant-loop-leaf : goal.invariant-loop-leaf
invariant-loop-leaf l = l.segments.items ≡ map segment_stat (take l.leaf-index l.leaves)
