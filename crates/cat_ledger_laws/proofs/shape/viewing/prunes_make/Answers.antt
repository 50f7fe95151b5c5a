use Rattle.cat_ledger_laws.proofs.shape.Views.{prunes_make}
use Rattle.cat_ledger_laws.proofs.shape.viewing.prunes_make.Goals as goal

pub returns : goal.returns
returns c = prunes_make
