use Rattle.cat_ledger_laws.proofs.lines.HoldAnswers.{gone_opens_answer}
use Rattle.cat_ledger_laws.proofs.lines.holding.gone_opens_answer.Goals as goal

pub returns : goal.returns
returns c = gone_opens_answer
