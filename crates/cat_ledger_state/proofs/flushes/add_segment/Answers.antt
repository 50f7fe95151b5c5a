use Rattle.std.proofs.Common.{arith}
use Rattle.std.proofs.lemmas.Grind.{common_steps, elements}
use Rattle.cat_ledger_state.proofs.flushes.add_segment.Goals as goal

pub pop-requires : goal.pop-requires
pop-requires c = grind (arith, elements)

pub returns-in-Err-clause-err : goal.returns-in-Err-clause-err
returns-in-Err-clause-err c = grind (arith, common_steps)
