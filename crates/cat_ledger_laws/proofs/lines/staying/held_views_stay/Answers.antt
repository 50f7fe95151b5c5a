use Rattle.cat_ledger_laws.proofs.lines.KeptCalls.{held_views_stay}
use Rattle.cat_ledger_laws.proofs.lines.staying.held_views_stay.Goals as goal

pub returns : goal.returns
returns c = held_views_stay
