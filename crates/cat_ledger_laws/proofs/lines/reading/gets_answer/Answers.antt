use Rattle.cat_ledger_laws.proofs.lines.ReadAnswers.{gets_answer}
use Rattle.cat_ledger_laws.proofs.lines.reading.gets_answer.Goals as goal

pub returns : goal.returns
returns c = gets_answer
