use Rattle.cat_ledger_laws.proofs.model.Written.{settled_are_merged}
use Rattle.cat_ledger_laws.proofs.model.settled_are_merged.Goals as goal

pub returns : goal.returns
returns c = settled_are_merged
