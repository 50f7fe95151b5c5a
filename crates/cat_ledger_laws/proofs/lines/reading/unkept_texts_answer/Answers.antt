use Rattle.cat_ledger_laws.proofs.lines.ReadAnswers.{unkept_texts_answer}
use Rattle.cat_ledger_laws.proofs.lines.reading.unkept_texts_answer.Goals as goal

pub returns : goal.returns
returns c = unkept_texts_answer
