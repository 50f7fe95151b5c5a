use Rattle.cat_ledger_laws.proofs.shape.Committed.{users_fit}
use Rattle.cat_ledger_laws.proofs.shape.committing.users_fit.Goals as goal

pub returns : goal.returns
returns c = users_fit
