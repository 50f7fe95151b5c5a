use Rattle.cat_ledger_laws.proofs.lines.RefusalAnswers.{spent_writes_answer}
use Rattle.cat_ledger_laws.proofs.lines.refusing.spent_writes_answer.Goals as goal

pub returns : goal.returns
returns c = spent_writes_answer
