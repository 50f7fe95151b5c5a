use Rattle.cat_ledger_laws.proofs.shape.MergeSteps.{ends_keep}
use Rattle.cat_ledger_laws.proofs.shape.merging.ends_keep.Goals as goal

pub returns : goal.returns
returns c = ends_keep
