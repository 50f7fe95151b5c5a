use Rattle.cat_model.proofs.Sayings.{one_hearing}
use Rattle.cat_model.proofs.hearing_is_one.Goals as goal

pub returns : goal.returns
returns c = one_hearing
