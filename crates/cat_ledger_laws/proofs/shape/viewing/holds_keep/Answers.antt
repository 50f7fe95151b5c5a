use Rattle.cat_ledger_laws.proofs.shape.Views.{holds_keep}
use Rattle.cat_ledger_laws.proofs.shape.viewing.holds_keep.Goals as goal

pub returns : goal.returns
returns c = holds_keep
