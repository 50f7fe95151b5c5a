use Rattle.cat_ledger_laws.proofs.shape.Opened.{empty_make}
use Rattle.cat_ledger_laws.proofs.shape.opening.empty_make.Goals as goal

pub returns : goal.returns
returns c = empty_make
