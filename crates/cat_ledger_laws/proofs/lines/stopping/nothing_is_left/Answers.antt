use Rattle.cat_ledger_laws.proofs.lines.StopAnswers.{nothing_is_left}
use Rattle.cat_ledger_laws.proofs.lines.stopping.nothing_is_left.Goals as goal

pub returns : goal.returns
returns c = nothing_is_left
