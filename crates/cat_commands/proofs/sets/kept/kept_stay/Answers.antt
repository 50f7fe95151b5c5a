use Rattle.cat_commands.proofs.sets.Knowing.{kept_stay}
use Rattle.cat_commands.proofs.sets.kept.kept_stay.Goals as goal

pub returns : goal.returns
returns c = kept_stay
