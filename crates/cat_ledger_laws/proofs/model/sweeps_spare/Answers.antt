use Rattle.cat_ledger_laws.proofs.model.Stored.{sweeps_spare}
use Rattle.cat_ledger_laws.proofs.model.sweeps_spare.Goals as goal

pub returns : goal.returns
returns c = sweeps_spare
