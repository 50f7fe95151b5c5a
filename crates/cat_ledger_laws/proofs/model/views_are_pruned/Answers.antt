use Rattle.cat_ledger_laws.proofs.model.Views.{views_are_pruned}
use Rattle.cat_ledger_laws.proofs.model.views_are_pruned.Goals as goal

pub returns : goal.returns
returns c = views_are_pruned
