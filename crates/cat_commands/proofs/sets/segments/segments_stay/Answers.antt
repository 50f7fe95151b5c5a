use Rattle.cat_commands.proofs.sets.Shaped.{segments_stay}
use Rattle.cat_commands.proofs.sets.segments.segments_stay.Goals as goal

pub returns : goal.returns
returns c = segments_stay
