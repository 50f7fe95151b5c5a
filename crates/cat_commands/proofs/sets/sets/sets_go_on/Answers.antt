use Rattle.cat_commands.proofs.sets.Right.{sets_go_on}
use Rattle.cat_commands.proofs.sets.sets.sets_go_on.Goals as goal

pub returns : goal.returns
returns c = sets_go_on
