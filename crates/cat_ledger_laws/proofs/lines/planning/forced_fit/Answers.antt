use Rattle.cat_ledger_laws.proofs.lines.Planned.{forced_fit}
use Rattle.cat_ledger_laws.proofs.lines.planning.forced_fit.Goals as goal

pub returns : goal.returns
returns c = forced_fit
