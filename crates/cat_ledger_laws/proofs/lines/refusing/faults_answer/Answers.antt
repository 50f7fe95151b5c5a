use Rattle.cat_ledger_laws.proofs.lines.RefusalAnswers.{faults_answer}
use Rattle.cat_ledger_laws.proofs.lines.refusing.faults_answer.Goals as goal

pub returns : goal.returns
returns c = faults_answer
