use Rattle.cat_ledger_laws.proofs.lines.RefusalAnswers.{full_refreshes_answer}
use Rattle.cat_ledger_laws.proofs.lines.refusing.full_refreshes_answer.Goals as goal

pub returns : goal.returns
returns c = full_refreshes_answer
