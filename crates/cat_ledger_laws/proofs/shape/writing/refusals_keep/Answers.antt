use Rattle.cat_ledger_laws.proofs.shape.Writes.{refusals_keep}
use Rattle.cat_ledger_laws.proofs.shape.writing.refusals_keep.Goals as goal

pub returns : goal.returns
returns c = refusals_keep
