use Rattle.std.proofs.Common.{take}
use Rattle.cat_model.specs.Merged.{rows_of_all}
use Rattle.cat_commits.proofs.reading.Ordered.{Ordered}
use Rattle.cat_commits.proofs.reading.order.in_order.Given as goal

abbrev pub invariant-loop-leaf : goal.invariant-loop-leaf
invariant-loop-leaf l = Ordered l.last (rows_of_all (take l.leaf-index l.leaves))
