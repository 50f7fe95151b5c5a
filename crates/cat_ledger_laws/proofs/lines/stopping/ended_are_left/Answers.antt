use Rattle.cat_ledger_laws.proofs.lines.StopAnswers.{ended_are_left}
use Rattle.cat_ledger_laws.proofs.lines.stopping.ended_are_left.Goals as goal

pub returns : goal.returns
returns c = ended_are_left
