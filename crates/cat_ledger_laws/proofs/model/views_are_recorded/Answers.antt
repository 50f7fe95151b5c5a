use Rattle.cat_ledger_laws.proofs.model.Views.{views_are_recorded}
use Rattle.cat_ledger_laws.proofs.model.views_are_recorded.Goals as goal

pub returns : goal.returns
returns c = views_are_recorded
