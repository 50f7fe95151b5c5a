use Rattle.cat_ledger_laws.proofs.lines.LineAnswers.{calls_answer}
use Rattle.cat_ledger_laws.proofs.lines.answering.calls_answer.Goals as goal

pub returns : goal.returns
returns c = calls_answer
