use Rattle.cat_ledger_laws.proofs.lines.Planned.{merges_rest}
use Rattle.cat_ledger_laws.proofs.lines.planning.merges_rest.Goals as goal

pub returns : goal.returns
returns c = merges_rest
