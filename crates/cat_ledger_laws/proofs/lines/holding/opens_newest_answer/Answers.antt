use Rattle.cat_ledger_laws.proofs.lines.HoldAnswers.{opens_newest_answer}
use Rattle.cat_ledger_laws.proofs.lines.holding.opens_newest_answer.Goals as goal

pub returns : goal.returns
returns c = opens_newest_answer
