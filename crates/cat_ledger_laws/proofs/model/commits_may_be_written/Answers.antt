use Rattle.cat_ledger_laws.proofs.model.Written.{commits_may_be_written}
use Rattle.cat_ledger_laws.proofs.model.commits_may_be_written.Goals as goal

pub returns : goal.returns
returns c = commits_may_be_written
