use Rattle.cat_ledger_laws.proofs.shape.Views.{records_make}
use Rattle.cat_ledger_laws.proofs.shape.viewing.records_make.Goals as goal

pub returns : goal.returns
returns c = records_make
