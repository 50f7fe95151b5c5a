use Rattle.cat_model.proofs.HitOrder.{added_stand_first}
use Rattle.cat_model.proofs.added_stand_first.Goals as goal

pub returns : goal.returns
returns c = added_stand_first
