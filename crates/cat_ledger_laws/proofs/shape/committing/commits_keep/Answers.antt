use Rattle.cat_ledger_laws.proofs.shape.Committed.{commits_keep}
use Rattle.cat_ledger_laws.proofs.shape.committing.commits_keep.Goals as goal

pub returns : goal.returns
returns c = commits_keep
