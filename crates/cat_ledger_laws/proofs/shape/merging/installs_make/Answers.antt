use Rattle.cat_ledger_laws.proofs.shape.MergeInstalls.{installs_make}
use Rattle.cat_ledger_laws.proofs.shape.merging.installs_make.Goals as goal

pub returns : goal.returns
returns c = installs_make
