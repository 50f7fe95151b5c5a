use Rattle.cat_ledger_laws.proofs.lines.RefusalAnswers.{foreign_chores_answer}
use Rattle.cat_ledger_laws.proofs.lines.refusing.foreign_chores_answer.Goals as goal

pub returns : goal.returns
returns c = foreign_chores_answer
