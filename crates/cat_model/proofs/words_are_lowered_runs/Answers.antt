use Rattle.cat_model.proofs.Longest.{lowered_runs}
use Rattle.cat_model.proofs.words_are_lowered_runs.Goals as goal

pub returns : goal.returns
returns c = lowered_runs
