use Rattle.cat_commands.proofs.sets.Knowing.{kept_go_on}
use Rattle.cat_commands.proofs.sets.kept.kept_go_on.Goals as goal

pub returns : goal.returns
returns c = kept_go_on
