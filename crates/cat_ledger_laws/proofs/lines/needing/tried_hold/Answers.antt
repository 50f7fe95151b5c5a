use Rattle.cat_ledger_laws.proofs.lines.TriedHeld.{tried_hold}
use Rattle.cat_ledger_laws.proofs.lines.needing.tried_hold.Goals as goal

pub returns : goal.returns
returns c = tried_hold
