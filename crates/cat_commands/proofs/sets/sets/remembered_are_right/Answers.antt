use Rattle.cat_commands.proofs.sets.Right.{remembered_are_right}
use Rattle.cat_commands.proofs.sets.sets.remembered_are_right.Goals as goal

pub returns : goal.returns
returns c = remembered_are_right
