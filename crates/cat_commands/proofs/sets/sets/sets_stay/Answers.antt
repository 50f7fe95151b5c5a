use Rattle.cat_commands.proofs.sets.Right.{sets_stay}
use Rattle.cat_commands.proofs.sets.sets.sets_stay.Goals as goal

pub returns : goal.returns
returns c = sets_stay
