use Rattle.cat_ledger_laws.proofs.lines.ReadAnswers.{reads_answer}
use Rattle.cat_ledger_laws.proofs.lines.reading.reads_answer.Goals as goal

pub returns : goal.returns
returns c = reads_answer
