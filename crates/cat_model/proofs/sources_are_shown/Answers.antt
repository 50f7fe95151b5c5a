use Rattle.cat_model.proofs.Sources.{sources_are_shown}
use Rattle.cat_model.proofs.sources_are_shown.Goals as goal

pub returns : goal.returns
returns c = sources_are_shown
