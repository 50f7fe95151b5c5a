use Rattle.cat_commands.proofs.sets.Right.{warmed_are_right}
use Rattle.cat_commands.proofs.sets.sets.warmed_are_right.Goals as goal

pub returns : goal.returns
returns c = warmed_are_right
