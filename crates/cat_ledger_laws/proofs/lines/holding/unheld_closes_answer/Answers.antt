use Rattle.cat_ledger_laws.proofs.lines.HoldAnswers.{unheld_closes_answer}
use Rattle.cat_ledger_laws.proofs.lines.holding.unheld_closes_answer.Goals as goal

pub returns : goal.returns
returns c = unheld_closes_answer
