use Rattle.cat_ledger_laws.proofs.shape.Writes.{flushed_may_stand}
use Rattle.cat_ledger_laws.proofs.shape.writing.flushed_may_stand.Goals as goal

pub returns : goal.returns
returns c = flushed_may_stand
