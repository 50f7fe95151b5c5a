use Rattle.std.proofs.Common.{arith}
use Rattle.std.proofs.lemmas.Grind.{common_steps}
use Rattle.cat_ledger_state.proofs.opening.known_names.Goals as goal

pub take-requires : goal.take-requires
take-requires c = grind (arith, common_steps)
