use Rattle.cat_ledger_laws.proofs.lines.JoinedCalls.{puts_make}
use Rattle.cat_ledger_laws.proofs.lines.joining.puts_make.Goals as goal

pub returns : goal.returns
returns c = puts_make
