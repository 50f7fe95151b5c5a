use Rattle.cat_commands.proofs.sets.Knowing.{added_are_right}
use Rattle.cat_commands.proofs.sets.kept.added_are_right.Goals as goal

pub returns : goal.returns
returns c = added_are_right
