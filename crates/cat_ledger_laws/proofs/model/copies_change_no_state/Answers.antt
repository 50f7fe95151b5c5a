use Rattle.cat_ledger_laws.proofs.model.Begins.{copies_change_no_state}
use Rattle.cat_ledger_laws.proofs.model.copies_change_no_state.Goals as goal

pub returns : goal.returns
returns c = copies_change_no_state
