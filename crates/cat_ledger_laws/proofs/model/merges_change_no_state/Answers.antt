use Rattle.cat_ledger_laws.proofs.model.Merges.{merges_change_no_state}
use Rattle.cat_ledger_laws.proofs.model.merges_change_no_state.Goals as goal

pub returns : goal.returns
returns c = merges_change_no_state
