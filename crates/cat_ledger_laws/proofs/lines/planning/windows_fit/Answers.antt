use Rattle.cat_ledger_laws.proofs.lines.Planned.{windows_fit}
use Rattle.cat_ledger_laws.proofs.lines.planning.windows_fit.Goals as goal

pub returns : goal.returns
returns c = windows_fit
