use Rattle.cat_ledger_laws.proofs.shape.Committed.{snaps_make}
use Rattle.cat_ledger_laws.proofs.shape.committing.snaps_make.Goals as goal

pub returns : goal.returns
returns c = snaps_make
