use Rattle.cat_ledger_laws.proofs.model.Sourced.{views_are_read}
use Rattle.cat_ledger_laws.proofs.model.views_are_read.Goals as goal

pub returns : goal.returns
returns c = views_are_read
