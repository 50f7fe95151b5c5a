use Rattle.cat_ledger_laws.proofs.shape.Tried.{making_is_apart}
use Rattle.cat_ledger_laws.proofs.shape.trying.making_is_apart.Goals as goal

pub returns : goal.returns
returns c = making_is_apart
