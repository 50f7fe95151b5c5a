use Rattle.cat_ledger_laws.proofs.lines.Planned.{forces_rest}
use Rattle.cat_ledger_laws.proofs.lines.planning.forces_rest.Goals as goal

pub returns : goal.returns
returns c = forces_rest
