use Rattle.cat_ledger_laws.proofs.lines.JoinedCalls.{flushes_flush}
use Rattle.cat_ledger_laws.proofs.lines.joining.flushes_flush.Goals as goal

pub returns : goal.returns
returns c = flushes_flush
