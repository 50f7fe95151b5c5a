use Rattle.cat_ledger_laws.proofs.shape.Writes.{refusals_make}
use Rattle.cat_ledger_laws.proofs.shape.writing.refusals_make.Goals as goal

pub returns : goal.returns
returns c = refusals_make
