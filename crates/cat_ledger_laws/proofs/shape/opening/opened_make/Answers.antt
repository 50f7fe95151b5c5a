use Rattle.cat_ledger_laws.proofs.shape.Opened.{opened_make}
use Rattle.cat_ledger_laws.proofs.shape.opening.opened_make.Goals as goal

pub returns : goal.returns
returns c = opened_make
