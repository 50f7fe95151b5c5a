use Rattle.cat_ledger_laws.proofs.lines.StopAnswers.{stopped_commits_answer}
use Rattle.cat_ledger_laws.proofs.lines.stopping.stopped_commits_answer.Goals as goal

pub returns : goal.returns
returns c = stopped_commits_answer
