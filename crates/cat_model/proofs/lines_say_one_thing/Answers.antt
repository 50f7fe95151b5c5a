use Rattle.cat_model.proofs.Sayings.{one_thing}
use Rattle.cat_model.proofs.lines_say_one_thing.Goals as goal

pub returns : goal.returns
returns c = one_thing
