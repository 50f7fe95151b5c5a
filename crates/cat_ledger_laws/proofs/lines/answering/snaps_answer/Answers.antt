use Rattle.cat_ledger_laws.proofs.lines.LineAnswers.{snaps_answer}
use Rattle.cat_ledger_laws.proofs.lines.answering.snaps_answer.Goals as goal

pub returns : goal.returns
returns c = snaps_answer
