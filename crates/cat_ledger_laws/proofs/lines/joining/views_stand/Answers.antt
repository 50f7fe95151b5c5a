use Rattle.cat_ledger_laws.proofs.lines.JoinedCalls.{views_stand}
use Rattle.cat_ledger_laws.proofs.lines.joining.views_stand.Goals as goal

pub returns : goal.returns
returns c = views_stand
