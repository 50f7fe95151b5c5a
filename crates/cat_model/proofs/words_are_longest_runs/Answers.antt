use Rattle.cat_model.proofs.Longest.{longest_runs}
use Rattle.cat_model.proofs.words_are_longest_runs.Goals as goal

pub returns : goal.returns
returns c = longest_runs
