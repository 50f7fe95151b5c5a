use Rattle.cat_ledger_laws.proofs.lines.Planned.{forces_wait}
use Rattle.cat_ledger_laws.proofs.lines.planning.forces_wait.Goals as goal

pub returns : goal.returns
returns c = forces_wait
