use Rattle.cat_ledger_laws.proofs.shape.Views.{views_are_counted}
use Rattle.cat_ledger_laws.proofs.shape.viewing.views_are_counted.Goals as goal

pub returns : goal.returns
returns c = views_are_counted
