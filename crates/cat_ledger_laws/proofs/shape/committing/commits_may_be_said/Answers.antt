use Rattle.cat_ledger_laws.proofs.shape.Committed.{commits_may_be_said}
use Rattle.cat_ledger_laws.proofs.shape.committing.commits_may_be_said.Goals as goal

pub returns : goal.returns
returns c = commits_may_be_said
