use Rattle.cat_ledger_laws.proofs.lines.Planned.{merges_begin}
use Rattle.cat_ledger_laws.proofs.lines.planning.merges_begin.Goals as goal

pub returns : goal.returns
returns c = merges_begin
