use Rattle.cat_ledger_laws.proofs.model.Replies.{calls_are_steps}
use Rattle.cat_ledger_laws.proofs.model.calls_are_steps.Goals as goal

pub returns : goal.returns
returns c = calls_are_steps
