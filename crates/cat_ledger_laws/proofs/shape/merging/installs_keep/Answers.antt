use Rattle.cat_ledger_laws.proofs.shape.MergeInstalls.{installs_keep}
use Rattle.cat_ledger_laws.proofs.shape.merging.installs_keep.Goals as goal

pub returns : goal.returns
returns c = installs_keep
