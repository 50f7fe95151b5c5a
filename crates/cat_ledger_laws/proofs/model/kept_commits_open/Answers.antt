use Rattle.cat_ledger_laws.proofs.model.Shown.{kept_commits_open}
use Rattle.cat_ledger_laws.proofs.model.kept_commits_open.Goals as goal

pub returns : goal.returns
returns c = kept_commits_open
