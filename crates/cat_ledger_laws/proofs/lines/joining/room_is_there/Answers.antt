use Rattle.cat_ledger_laws.proofs.lines.JoinedCalls.{room_is_there}
use Rattle.cat_ledger_laws.proofs.lines.joining.room_is_there.Goals as goal

pub returns : goal.returns
returns c = room_is_there
