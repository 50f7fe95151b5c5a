use Rattle.cat_commands.proofs.sets.Agreed.{segments_are_one}
use Rattle.cat_commands.proofs.sets.segments.segments_are_one.Goals as goal

pub returns : goal.returns
returns c = segments_are_one c.segments_are_told_by_their_bytes.ensures
