use Rattle.cat_ledger_laws.proofs.model.Stored.{ends_store}
use Rattle.cat_ledger_laws.proofs.model.ends_store.Goals as goal

pub returns : goal.returns
returns c = ends_store
