use Rattle.cat_ledger_laws.proofs.lines.LineAnswers.{refreshes_answer}
use Rattle.cat_ledger_laws.proofs.lines.answering.refreshes_answer.Goals as goal

pub returns : goal.returns
returns c = refreshes_answer
