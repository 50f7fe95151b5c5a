use Rattle.cat_ledger_laws.proofs.shape.Writes.{flushes_keep}
use Rattle.cat_ledger_laws.proofs.shape.writing.flushes_keep.Goals as goal

pub returns : goal.returns
returns c = flushes_keep
