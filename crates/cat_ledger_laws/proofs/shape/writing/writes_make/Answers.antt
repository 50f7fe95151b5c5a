use Rattle.cat_ledger_laws.proofs.shape.Writes.{writes_make}
use Rattle.cat_ledger_laws.proofs.shape.writing.writes_make.Goals as goal

pub returns : goal.returns
returns c = writes_make
