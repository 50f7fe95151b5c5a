use Rattle.cat_ledger_laws.proofs.shape.MergeWindows.{merges_find_their_window}
use Rattle.cat_ledger_laws.proofs.shape.merging.merges_find_their_window.Goals as goal

pub returns : goal.returns
returns c = merges_find_their_window
