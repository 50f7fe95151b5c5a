use Rattle.cat_ledger_laws.proofs.lines.LineAnswers.{prunes_answer}
use Rattle.cat_ledger_laws.proofs.lines.answering.prunes_answer.Goals as goal

pub returns : goal.returns
returns c = prunes_answer
