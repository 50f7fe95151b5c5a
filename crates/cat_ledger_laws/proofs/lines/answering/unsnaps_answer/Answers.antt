use Rattle.cat_ledger_laws.proofs.lines.LineAnswers.{unsnaps_answer}
use Rattle.cat_ledger_laws.proofs.lines.answering.unsnaps_answer.Goals as goal

pub returns : goal.returns
returns c = unsnaps_answer
