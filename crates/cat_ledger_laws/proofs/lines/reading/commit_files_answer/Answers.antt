use Rattle.cat_ledger_laws.proofs.lines.ReadAnswers.{commit_files_answer}
use Rattle.cat_ledger_laws.proofs.lines.reading.commit_files_answer.Goals as goal

pub returns : goal.returns
returns c = commit_files_answer
