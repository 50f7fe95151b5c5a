use Rattle.std.proofs.Common.{◌≡◌, map, take}
use Rattle.cat_query.specs.View.{query_of}
use Rattle.cat_live_table.specs.current.Removals.{removed_from}
use Rattle.cat_live_table.proofs.current.removals.removals_of.Given as goal

abbrev pub invariant-loop-leaf : goal.invariant-loop-leaf
invariant-loop-leaf l = l.removals.items ≡ map (removed_from (query_of l.query)) (take l.leaf-index l.leaves)
