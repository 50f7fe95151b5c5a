use Rattle.cat_ledger_laws.proofs.lines.ReadAnswers.{texts_answer}
use Rattle.cat_ledger_laws.proofs.lines.reading.texts_answer.Goals as goal

pub returns : goal.returns
returns c = texts_answer
