use Rattle.cat_ledger_laws.proofs.model.Stored.{merges_store}
use Rattle.cat_ledger_laws.proofs.model.merges_store.Goals as goal

pub returns : goal.returns
returns c = merges_store
