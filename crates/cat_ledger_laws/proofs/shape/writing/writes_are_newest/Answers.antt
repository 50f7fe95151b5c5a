use Rattle.cat_ledger_laws.proofs.shape.Writes.{writes_are_newest}
use Rattle.cat_ledger_laws.proofs.shape.writing.writes_are_newest.Goals as goal

pub returns : goal.returns
returns c = writes_are_newest
