use Rattle.cat_ledger_laws.proofs.shape.Views.{shapes_are_views}
use Rattle.cat_ledger_laws.proofs.shape.viewing.shapes_are_views.Goals as goal

pub returns : goal.returns
returns c = shapes_are_views
