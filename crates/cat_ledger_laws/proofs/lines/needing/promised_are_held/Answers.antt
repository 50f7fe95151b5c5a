use Rattle.cat_ledger_laws.proofs.lines.Held.{promised_are_held}
use Rattle.cat_ledger_laws.proofs.lines.needing.promised_are_held.Goals as goal

pub returns : goal.returns
returns c = promised_are_held
