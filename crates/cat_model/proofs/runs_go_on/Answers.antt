use Rattle.cat_model.proofs.Runs.{runs_go_on}
use Rattle.cat_model.proofs.runs_go_on.Goals as goal

pub returns : goal.returns
returns c = runs_go_on
