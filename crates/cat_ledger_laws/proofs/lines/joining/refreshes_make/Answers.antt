use Rattle.cat_ledger_laws.proofs.lines.JoinedCalls.{refreshes_make}
use Rattle.cat_ledger_laws.proofs.lines.joining.refreshes_make.Goals as goal

pub returns : goal.returns
returns c = refreshes_make
