use Rattle.cat_ledger_laws.proofs.model.Stored.{writes_store}
use Rattle.cat_ledger_laws.proofs.model.writes_store.Goals as goal

pub returns : goal.returns
returns c = writes_store
