use Rattle.cat_ledger_laws.proofs.shape.Committed.{commits_make}
use Rattle.cat_ledger_laws.proofs.shape.committing.commits_make.Goals as goal

pub returns : goal.returns
returns c = commits_make
