use Rattle.cat_ledger_laws.proofs.lines.Answered.{opened_stand}
use Rattle.cat_ledger_laws.proofs.lines.running.opened_stand.Goals as goal

pub returns : goal.returns
returns c = opened_stand
