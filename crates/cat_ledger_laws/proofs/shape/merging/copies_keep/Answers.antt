use Rattle.cat_ledger_laws.proofs.shape.MergeSteps.{copies_keep}
use Rattle.cat_ledger_laws.proofs.shape.merging.copies_keep.Goals as goal

pub returns : goal.returns
returns c = copies_keep
