use Rattle.cat_commands.proofs.sets.Right.{current_are_among}
use Rattle.cat_commands.proofs.sets.segments.current_are_among.Goals as goal

pub returns : goal.returns
returns c = current_are_among
