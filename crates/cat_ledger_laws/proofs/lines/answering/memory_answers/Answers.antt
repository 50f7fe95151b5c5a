use Rattle.cat_ledger_laws.proofs.lines.LineAnswers.{memory_answers}
use Rattle.cat_ledger_laws.proofs.lines.answering.memory_answers.Goals as goal

pub returns : goal.returns
returns c = memory_answers
