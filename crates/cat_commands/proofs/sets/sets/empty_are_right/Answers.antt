use Rattle.cat_commands.proofs.sets.Right.{empty_are_right}
use Rattle.cat_commands.proofs.sets.sets.empty_are_right.Goals as goal

pub returns : goal.returns
returns c = empty_are_right
