use Rattle.cat_model.proofs.Opening.{fresh_begins}
use Rattle.cat_model.proofs.fresh_states_begin_runs.Goals as goal

pub returns : goal.returns
returns c = fresh_begins
