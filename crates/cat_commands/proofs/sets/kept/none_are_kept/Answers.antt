use Rattle.cat_commands.proofs.sets.Knowing.{none_are_kept}
use Rattle.cat_commands.proofs.sets.kept.none_are_kept.Goals as goal

pub returns : goal.returns
returns c = none_are_kept
