use Rattle.cat_ledger_laws.proofs.lines.HoldAnswers.{closes_answer}
use Rattle.cat_ledger_laws.proofs.lines.holding.closes_answer.Goals as goal

pub returns : goal.returns
returns c = closes_answer
