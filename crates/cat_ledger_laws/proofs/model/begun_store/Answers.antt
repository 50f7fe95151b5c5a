use Rattle.cat_ledger_laws.proofs.model.Stored.{begun_store}
use Rattle.cat_ledger_laws.proofs.model.begun_store.Goals as goal

pub returns : goal.returns
returns c = begun_store
