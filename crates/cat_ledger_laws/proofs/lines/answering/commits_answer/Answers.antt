use Rattle.cat_ledger_laws.proofs.lines.LineAnswers.{commits_answer}
use Rattle.cat_ledger_laws.proofs.lines.answering.commits_answer.Goals as goal

pub returns : goal.returns
returns c = commits_answer
