use Rattle.std.proofs.Common.{arith}
use Rattle.std.proofs.lemmas.Grind.{common_steps}
use Rattle.cat_live_table.proofs.current.removals.leaves_left.Goals as goal

pub loop-removal-preserved : goal.loop-removal-preserved
loop-removal-preserved c = grind (arith, common_steps)
