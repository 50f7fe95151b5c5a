use Rattle.cat_ledger_laws.proofs.lines.ReadAnswers.{unheld_files_answer}
use Rattle.cat_ledger_laws.proofs.lines.reading.unheld_files_answer.Goals as goal

pub returns : goal.returns
returns c = unheld_files_answer
