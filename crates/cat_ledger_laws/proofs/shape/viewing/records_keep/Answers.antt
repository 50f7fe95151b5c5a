use Rattle.cat_ledger_laws.proofs.shape.Views.{records_keep}
use Rattle.cat_ledger_laws.proofs.shape.viewing.records_keep.Goals as goal

pub returns : goal.returns
returns c = records_keep
