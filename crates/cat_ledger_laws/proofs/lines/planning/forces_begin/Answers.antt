use Rattle.cat_ledger_laws.proofs.lines.Planned.{forces_begin}
use Rattle.cat_ledger_laws.proofs.lines.planning.forces_begin.Goals as goal

pub returns : goal.returns
returns c = forces_begin
