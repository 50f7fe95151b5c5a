use Rattle.cat_ledger_laws.proofs.shape.Opened.{opened_keep}
use Rattle.cat_ledger_laws.proofs.shape.opening.opened_keep.Goals as goal

pub returns : goal.returns
returns c = opened_keep
