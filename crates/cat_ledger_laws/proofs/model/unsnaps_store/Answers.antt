use Rattle.cat_ledger_laws.proofs.model.Stored.{unsnaps_store}
use Rattle.cat_ledger_laws.proofs.model.unsnaps_store.Goals as goal

pub returns : goal.returns
returns c = unsnaps_store
