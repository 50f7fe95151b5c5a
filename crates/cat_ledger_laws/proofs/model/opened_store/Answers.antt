use Rattle.cat_ledger_laws.proofs.model.Opened.{opened_store}
use Rattle.cat_ledger_laws.proofs.model.opened_store.Goals as goal

pub returns : goal.returns
returns c = opened_store
