use Rattle.cat_ledger_laws.proofs.lines.ReadAnswers.{unkept_files_answer}
use Rattle.cat_ledger_laws.proofs.lines.reading.unkept_files_answer.Goals as goal

pub returns : goal.returns
returns c = unkept_files_answer
