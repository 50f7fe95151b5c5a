use Rattle.cat_ledger_laws.proofs.model.Counted.{users_are_counted}
use Rattle.cat_ledger_laws.proofs.model.users_are_counted.Goals as goal

pub returns : goal.returns
returns c = users_are_counted
