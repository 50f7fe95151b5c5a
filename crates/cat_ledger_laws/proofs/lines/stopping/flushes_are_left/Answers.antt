use Rattle.cat_ledger_laws.proofs.lines.StopAnswers.{flushes_are_left}
use Rattle.cat_ledger_laws.proofs.lines.stopping.flushes_are_left.Goals as goal

pub returns : goal.returns
returns c = flushes_are_left
