use Rattle.cat_ledger_laws.proofs.lines.Planned.{merges_tell}
use Rattle.cat_ledger_laws.proofs.lines.planning.merges_tell.Goals as goal

pub returns : goal.returns
returns c = merges_tell
