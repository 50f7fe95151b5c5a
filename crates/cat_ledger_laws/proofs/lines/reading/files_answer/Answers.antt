use Rattle.cat_ledger_laws.proofs.lines.ReadAnswers.{files_answer}
use Rattle.cat_ledger_laws.proofs.lines.reading.files_answer.Goals as goal

pub returns : goal.returns
returns c = files_answer
