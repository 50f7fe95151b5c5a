use Rattle.cat_ledger_laws.proofs.lines.LineAnswers.{stopped_refreshes_answer}
use Rattle.cat_ledger_laws.proofs.lines.answering.stopped_refreshes_answer.Goals as goal

pub returns : goal.returns
returns c = stopped_refreshes_answer
