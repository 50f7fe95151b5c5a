use Rattle.cat_ledger_laws.proofs.lines.StopAnswers.{chores_answer}
use Rattle.cat_ledger_laws.proofs.lines.stopping.chores_answer.Goals as goal

pub returns : goal.returns
returns c = chores_answer
