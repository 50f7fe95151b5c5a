use Rattle.cat_commands.proofs.sets.Right.{recorded_are_known}
use Rattle.cat_commands.proofs.sets.sets.recorded_are_known.Goals as goal

pub returns : goal.returns
returns c = recorded_are_known
