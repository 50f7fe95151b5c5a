use Rattle.cat_ledger_laws.proofs.model.Flushes.{flushes_change_no_state}
use Rattle.cat_ledger_laws.proofs.model.flushes_change_no_state.Goals as goal

pub returns : goal.returns
returns c = flushes_change_no_state
