use Rattle.cat_ledger_laws.proofs.shape.MergeWindows.{windows_may_be_merged}
use Rattle.cat_ledger_laws.proofs.shape.merging.windows_may_be_merged.Goals as goal

pub returns : goal.returns
returns c = windows_may_be_merged
