use Rattle.cat_ledger_laws.proofs.shape.MergeSteps.{begun_keep}
use Rattle.cat_ledger_laws.proofs.shape.merging.begun_keep.Goals as goal

pub returns : goal.returns
returns c = begun_keep
