use Rattle.cat_ledger_laws.proofs.lines.StopAnswers.{stopped_gets_answer}
use Rattle.cat_ledger_laws.proofs.lines.stopping.stopped_gets_answer.Goals as goal

pub returns : goal.returns
returns c = stopped_gets_answer
