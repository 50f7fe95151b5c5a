use Rattle.cat_commands.proofs.sets.Knowing.{unkept_are_known}
use Rattle.cat_commands.proofs.sets.kept.unkept_are_known.Goals as goal

pub returns : goal.returns
returns c = unkept_are_known
