use Rattle.cat_ledger_laws.proofs.lines.LineAnswers.{deletes_answer}
use Rattle.cat_ledger_laws.proofs.lines.answering.deletes_answer.Goals as goal

pub returns : goal.returns
returns c = deletes_answer
