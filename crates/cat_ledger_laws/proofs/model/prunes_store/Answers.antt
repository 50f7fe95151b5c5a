use Rattle.cat_ledger_laws.proofs.model.Stored.{prunes_store}
use Rattle.cat_ledger_laws.proofs.model.prunes_store.Goals as goal

pub returns : goal.returns
returns c = prunes_store
