use Rattle.cat_commands.proofs.sets.Beside.{recorded_are_among}
use Rattle.cat_commands.proofs.sets.segments.recorded_are_among.Goals as goal

pub returns : goal.returns
returns c = recorded_are_among
