use Rattle.cat_ledger_laws.proofs.shape.Views.{holds_make}
use Rattle.cat_ledger_laws.proofs.shape.viewing.holds_make.Goals as goal

pub returns : goal.returns
returns c = holds_make
