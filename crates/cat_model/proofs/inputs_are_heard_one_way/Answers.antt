use Rattle.cat_model.proofs.Sayings.{one_way}
use Rattle.cat_model.proofs.inputs_are_heard_one_way.Goals as goal

pub returns : goal.returns
returns c = one_way
