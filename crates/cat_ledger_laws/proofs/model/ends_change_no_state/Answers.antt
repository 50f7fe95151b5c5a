use Rattle.cat_ledger_laws.proofs.model.Begins.{ends_change_no_state}
use Rattle.cat_ledger_laws.proofs.model.ends_change_no_state.Goals as goal

pub returns : goal.returns
returns c = ends_change_no_state
