use Rattle.cat_commands.proofs.sets.Knowing.{recorded_agree}
use Rattle.cat_commands.proofs.sets.kept.recorded_agree.Goals as goal

pub returns : goal.returns
returns c = recorded_agree
