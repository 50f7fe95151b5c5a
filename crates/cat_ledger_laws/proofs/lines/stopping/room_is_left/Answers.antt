use Rattle.cat_ledger_laws.proofs.lines.StopAnswers.{room_is_left}
use Rattle.cat_ledger_laws.proofs.lines.stopping.room_is_left.Goals as goal

pub returns : goal.returns
returns c = room_is_left
