use Rattle.cat_ledger_laws.proofs.lines.KeptCalls.{holds_stay}
use Rattle.cat_ledger_laws.proofs.lines.staying.holds_stay.Goals as goal

pub returns : goal.returns
returns c = holds_stay
