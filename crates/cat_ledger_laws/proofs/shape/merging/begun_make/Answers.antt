use Rattle.cat_ledger_laws.proofs.shape.MergeSteps.{begun_make}
use Rattle.cat_ledger_laws.proofs.shape.merging.begun_make.Goals as goal

pub returns : goal.returns
returns c = begun_make
