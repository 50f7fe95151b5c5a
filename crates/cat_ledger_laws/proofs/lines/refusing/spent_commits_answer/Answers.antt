use Rattle.cat_ledger_laws.proofs.lines.RefusalAnswers.{spent_commits_answer}
use Rattle.cat_ledger_laws.proofs.lines.refusing.spent_commits_answer.Goals as goal

pub returns : goal.returns
returns c = spent_commits_answer
