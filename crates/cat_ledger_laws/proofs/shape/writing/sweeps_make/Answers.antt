use Rattle.cat_ledger_laws.proofs.shape.Writes.{sweeps_make}
use Rattle.cat_ledger_laws.proofs.shape.writing.sweeps_make.Goals as goal

pub returns : goal.returns
returns c = sweeps_make
