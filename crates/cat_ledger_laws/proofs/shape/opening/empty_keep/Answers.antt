use Rattle.cat_ledger_laws.proofs.shape.Opened.{empty_keep}
use Rattle.cat_ledger_laws.proofs.shape.opening.empty_keep.Goals as goal

pub returns : goal.returns
returns c = empty_keep
