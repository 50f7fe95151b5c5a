use Rattle.cat_ledger_laws.proofs.shape.Writes.{flushes_make}
use Rattle.cat_ledger_laws.proofs.shape.writing.flushes_make.Goals as goal

pub returns : goal.returns
returns c = flushes_make
