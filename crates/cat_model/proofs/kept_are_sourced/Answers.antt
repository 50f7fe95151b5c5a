use Rattle.cat_model.proofs.Merged.{kept_are_sourced}
use Rattle.cat_model.proofs.kept_are_sourced.Goals as goal

pub returns : goal.returns
returns c = kept_are_sourced
