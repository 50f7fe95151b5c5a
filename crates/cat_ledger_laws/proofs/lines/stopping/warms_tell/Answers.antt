use Rattle.cat_ledger_laws.proofs.lines.StopAnswers.{warms_tell}
use Rattle.cat_ledger_laws.proofs.lines.stopping.warms_tell.Goals as goal

pub returns : goal.returns
returns c = warms_tell
