use Rattle.cat_ledger_laws.proofs.shape.Views.{prunes_keep}
use Rattle.cat_ledger_laws.proofs.shape.viewing.prunes_keep.Goals as goal

pub returns : goal.returns
returns c = prunes_keep
