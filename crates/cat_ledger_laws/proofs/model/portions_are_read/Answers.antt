use Rattle.cat_ledger_laws.proofs.model.Sourced.{portions_are_read}
use Rattle.cat_ledger_laws.proofs.model.portions_are_read.Goals as goal

pub returns : goal.returns
returns c = portions_are_read
