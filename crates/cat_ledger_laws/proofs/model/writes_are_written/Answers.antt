use Rattle.cat_ledger_laws.proofs.model.Flushes.{writes_are_written}
use Rattle.cat_ledger_laws.proofs.model.writes_are_written.Goals as goal

pub returns : goal.returns
returns c = writes_are_written
