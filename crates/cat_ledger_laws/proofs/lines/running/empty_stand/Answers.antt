use Rattle.cat_ledger_laws.proofs.lines.Answered.{empty_stand}
use Rattle.cat_ledger_laws.proofs.lines.running.empty_stand.Goals as goal

pub returns : goal.returns
returns c = empty_stand
