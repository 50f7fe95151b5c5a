use Rattle.std.proofs.Common.{arith}
use Rattle.std.proofs.lemmas.Grind.{common_steps, elements}
use Rattle.cat_facets.proofs.states.numbers_in.Goals as goal

pub loop-leaf-preserved : goal.loop-leaf-preserved
loop-leaf-preserved c = grind (arith, common_steps)

pub returns : goal.returns
returns c = grind (arith, elements)
