use Rattle.cat_ledger_laws.proofs.model.Commits.{opened_are_fresh}
use Rattle.cat_ledger_laws.proofs.model.opened_are_fresh.Goals as goal

pub returns : goal.returns
returns c = opened_are_fresh
