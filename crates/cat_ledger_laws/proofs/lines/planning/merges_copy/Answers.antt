use Rattle.cat_ledger_laws.proofs.lines.Planned.{merges_copy}
use Rattle.cat_ledger_laws.proofs.lines.planning.merges_copy.Goals as goal

pub returns : goal.returns
returns c = merges_copy
