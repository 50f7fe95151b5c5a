use Rattle.cat_ledger_laws.proofs.shape.Committed.{commits_are_counted}
use Rattle.cat_ledger_laws.proofs.shape.committing.commits_are_counted.Goals as goal

pub returns : goal.returns
returns c = commits_are_counted
