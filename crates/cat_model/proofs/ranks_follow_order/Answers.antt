use Rattle.cat_model.proofs.Ranked.{ranks_follow_order}
use Rattle.cat_model.proofs.ranks_follow_order.Goals as goal

pub returns : goal.returns
returns g c = ranks_follow_order
