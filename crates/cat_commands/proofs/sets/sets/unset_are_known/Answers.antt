use Rattle.cat_commands.proofs.sets.Right.{unset_are_known}
use Rattle.cat_commands.proofs.sets.sets.unset_are_known.Goals as goal

pub returns : goal.returns
returns c = unset_are_known
