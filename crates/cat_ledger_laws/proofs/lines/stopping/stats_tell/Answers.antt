use Rattle.cat_ledger_laws.proofs.lines.StopAnswers.{stats_tell}
use Rattle.cat_ledger_laws.proofs.lines.stopping.stats_tell.Goals as goal

pub returns : goal.returns
returns c = stats_tell
