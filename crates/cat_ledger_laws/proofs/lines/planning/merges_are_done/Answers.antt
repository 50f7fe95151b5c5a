use Rattle.cat_ledger_laws.proofs.lines.Planned.{merges_are_done}
use Rattle.cat_ledger_laws.proofs.lines.planning.merges_are_done.Goals as goal

pub returns : goal.returns
returns c = merges_are_done
