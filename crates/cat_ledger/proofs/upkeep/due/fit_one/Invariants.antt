use Rattle.std.proofs.Common.{◌≡◌, ◌+◌, sum, take}
use Rattle.cat_model.specs.Limits.{row_limit}
use Rattle.cat_ledger_laws.specs.lines.PlanLaws.{sizes_in}
use Rattle.cat_ledger.proofs.upkeep.due.fit_one.Given as goal

abbrev pub invariant-loop-leaf : goal.invariant-loop-leaf
invariant-loop-leaf l = l.room + sum (sizes_in (take l.leaf-index l.leaves)) ≡ row_limit
