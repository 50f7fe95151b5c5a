use Rattle.cat_ledger_laws.proofs.lines.RefusalAnswers.{spent_snaps_answer}
use Rattle.cat_ledger_laws.proofs.lines.refusing.spent_snaps_answer.Goals as goal

pub returns : goal.returns
returns c = spent_snaps_answer
