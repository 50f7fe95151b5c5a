use Rattle.cat_ledger_laws.proofs.model.Begins.{begun_change_no_state}
use Rattle.cat_ledger_laws.proofs.model.begun_change_no_state.Goals as goal

pub returns : goal.returns
returns c = begun_change_no_state
