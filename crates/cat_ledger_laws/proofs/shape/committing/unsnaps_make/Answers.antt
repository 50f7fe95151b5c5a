use Rattle.cat_ledger_laws.proofs.shape.Committed.{unsnaps_make}
use Rattle.cat_ledger_laws.proofs.shape.committing.unsnaps_make.Goals as goal

pub returns : goal.returns
returns c = unsnaps_make
