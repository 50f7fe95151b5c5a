use Rattle.cat_ledger_laws.proofs.model.Commits.{snapshots_are_given}
use Rattle.cat_ledger_laws.proofs.model.snapshots_are_given.Goals as goal

pub returns : goal.returns
returns c = snapshots_are_given
