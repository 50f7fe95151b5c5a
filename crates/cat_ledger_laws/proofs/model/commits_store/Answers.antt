use Rattle.cat_ledger_laws.proofs.model.Stored.{commits_store}
use Rattle.cat_ledger_laws.proofs.model.commits_store.Goals as goal

pub returns : goal.returns
returns c = commits_store
