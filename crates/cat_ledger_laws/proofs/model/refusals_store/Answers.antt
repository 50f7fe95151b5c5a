use Rattle.cat_ledger_laws.proofs.model.Stored.{refusals_store}
use Rattle.cat_ledger_laws.proofs.model.refusals_store.Goals as goal

pub returns : goal.returns
returns c = refusals_store
