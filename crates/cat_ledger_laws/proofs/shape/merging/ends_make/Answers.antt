use Rattle.cat_ledger_laws.proofs.shape.MergeSteps.{ends_make}
use Rattle.cat_ledger_laws.proofs.shape.merging.ends_make.Goals as goal

pub returns : goal.returns
returns c = ends_make
