use Rattle.cat_ledger_laws.proofs.model.Commits.{commits_are_kept}
use Rattle.cat_ledger_laws.proofs.model.commits_are_kept.Goals as goal

pub returns : goal.returns
returns c = commits_are_kept
