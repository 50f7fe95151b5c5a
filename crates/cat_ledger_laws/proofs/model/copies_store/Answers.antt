use Rattle.cat_ledger_laws.proofs.model.Stored.{copies_store}
use Rattle.cat_ledger_laws.proofs.model.copies_store.Goals as goal

pub returns : goal.returns
returns c = copies_store
