use Rattle.cat_ledger_laws.proofs.lines.StopAnswers.{stopped_chores_answer}
use Rattle.cat_ledger_laws.proofs.lines.stopping.stopped_chores_answer.Goals as goal

pub returns : goal.returns
returns c = stopped_chores_answer
