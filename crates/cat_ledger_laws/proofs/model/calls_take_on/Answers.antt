use Rattle.cat_ledger_laws.proofs.model.Taking.{calls_take_on}
use Rattle.cat_ledger_laws.proofs.model.calls_take_on.Goals as goal

pub returns : goal.returns
returns c = calls_take_on
