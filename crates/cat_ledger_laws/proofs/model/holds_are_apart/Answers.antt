use Rattle.cat_ledger_laws.proofs.model.Begins.{holds_are_apart}
use Rattle.cat_ledger_laws.proofs.model.holds_are_apart.Goals as goal

pub returns : goal.returns
returns c = holds_are_apart
