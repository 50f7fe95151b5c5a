use Rattle.cat_ledger_laws.proofs.lines.StopAnswers.{begun_are_left}
use Rattle.cat_ledger_laws.proofs.lines.stopping.begun_are_left.Goals as goal

pub returns : goal.returns
returns c = begun_are_left
