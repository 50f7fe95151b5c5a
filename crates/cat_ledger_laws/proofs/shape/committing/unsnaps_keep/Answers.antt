use Rattle.cat_ledger_laws.proofs.shape.Committed.{unsnaps_keep}
use Rattle.cat_ledger_laws.proofs.shape.committing.unsnaps_keep.Goals as goal

pub returns : goal.returns
returns c = unsnaps_keep
