use Rattle.cat_ledger_laws.proofs.model.Begins.{refusals_change_no_state}
use Rattle.cat_ledger_laws.proofs.model.refusals_change_no_state.Goals as goal

pub returns : goal.returns
returns c = refusals_change_no_state
