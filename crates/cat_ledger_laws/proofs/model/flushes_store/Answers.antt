use Rattle.cat_ledger_laws.proofs.model.Stored.{flushes_store}
use Rattle.cat_ledger_laws.proofs.model.flushes_store.Goals as goal

pub returns : goal.returns
returns c = flushes_store
