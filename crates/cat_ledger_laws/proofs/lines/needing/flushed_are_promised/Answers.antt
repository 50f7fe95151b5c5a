use Rattle.cat_ledger_laws.proofs.lines.Refused.{flushed_are_promised}
use Rattle.cat_ledger_laws.proofs.lines.needing.flushed_are_promised.Goals as goal

pub returns : goal.returns
returns c = flushed_are_promised
