use Rattle.cat_ledger_laws.proofs.lines.LineAnswers.{stopped_puts_answer}
use Rattle.cat_ledger_laws.proofs.lines.answering.stopped_puts_answer.Goals as goal

pub returns : goal.returns
returns c = stopped_puts_answer
