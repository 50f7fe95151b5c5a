use Rattle.cat_ledger_laws.proofs.shape.Committed.{names_come_once}
use Rattle.cat_ledger_laws.proofs.shape.committing.names_come_once.Goals as goal

pub returns : goal.returns
returns c = names_come_once
