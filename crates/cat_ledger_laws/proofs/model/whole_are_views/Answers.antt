use Rattle.cat_ledger_laws.proofs.model.Shown.{whole_are_views}
use Rattle.cat_ledger_laws.proofs.model.whole_are_views.Goals as goal

pub returns : goal.returns
returns c = whole_are_views
