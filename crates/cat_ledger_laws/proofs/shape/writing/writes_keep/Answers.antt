use Rattle.cat_ledger_laws.proofs.shape.Writes.{writes_keep}
use Rattle.cat_ledger_laws.proofs.shape.writing.writes_keep.Goals as goal

pub returns : goal.returns
returns c = writes_keep
