use Rattle.cat_ledger_laws.proofs.lines.LineAnswers.{query_deletes_answer}
use Rattle.cat_ledger_laws.proofs.lines.answering.query_deletes_answer.Goals as goal

pub returns : goal.returns
returns c = query_deletes_answer
