use Rattle.cat_model.proofs.Commits.{generations_are_kept}
use Rattle.cat_model.proofs.generations_are_kept.Goals as goal

pub returns : goal.returns
returns c = generations_are_kept
