use Rattle.cat_ledger_laws.proofs.model.Stored.{records_store}
use Rattle.cat_ledger_laws.proofs.model.records_store.Goals as goal

pub returns : goal.returns
returns c = records_store
