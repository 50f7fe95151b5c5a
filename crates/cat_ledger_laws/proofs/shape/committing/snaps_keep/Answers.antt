use Rattle.cat_ledger_laws.proofs.shape.Committed.{snaps_keep}
use Rattle.cat_ledger_laws.proofs.shape.committing.snaps_keep.Goals as goal

pub returns : goal.returns
returns c = snaps_keep
