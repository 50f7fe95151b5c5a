use Rattle.cat_ledger_laws.proofs.lines.ReadAnswers.{unheld_reads_answer}
use Rattle.cat_ledger_laws.proofs.lines.reading.unheld_reads_answer.Goals as goal

pub returns : goal.returns
returns c = unheld_reads_answer
