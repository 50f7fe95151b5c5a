use Rattle.cat_ledger_laws.proofs.lines.StopAnswers.{sweeps_tell}
use Rattle.cat_ledger_laws.proofs.lines.stopping.sweeps_tell.Goals as goal

pub returns : goal.returns
returns c = sweeps_tell
