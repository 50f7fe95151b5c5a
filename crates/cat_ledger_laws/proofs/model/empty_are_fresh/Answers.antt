use Rattle.cat_ledger_laws.proofs.model.Opened.{empty_are_fresh}
use Rattle.cat_ledger_laws.proofs.model.empty_are_fresh.Goals as goal

pub returns : goal.returns
returns c = empty_are_fresh
