use Rattle.std.proofs.Common.{◌≡◌, take}
use Rattle.cat_ledger_laws.specs.lines.PlanLaws.{sizes_in}
use Rattle.cat_ledger.proofs.upkeep.due.sizes_of.Given as goal

abbrev pub invariant-loop-leaf : goal.invariant-loop-leaf
invariant-loop-leaf l = l.sizes.items ≡ sizes_in (take l.leaf-index l.leaves)
