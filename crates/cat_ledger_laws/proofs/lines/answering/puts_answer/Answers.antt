use Rattle.cat_ledger_laws.proofs.lines.LineAnswers.{puts_answer}
use Rattle.cat_ledger_laws.proofs.lines.answering.puts_answer.Goals as goal

pub returns : goal.returns
returns c = puts_answer
