use Rattle.cat_ledger_laws.proofs.lines.StopAnswers.{flushed_are_left}
use Rattle.cat_ledger_laws.proofs.lines.stopping.flushed_are_left.Goals as goal

pub returns : goal.returns
returns c = flushed_are_left
