use Rattle.cat_ledger_laws.proofs.lines.JoinedCalls.{flushes_rest}
use Rattle.cat_ledger_laws.proofs.lines.joining.flushes_rest.Goals as goal

pub returns : goal.returns
returns c = flushes_rest
