use Rattle.std.proofs.Common.{length}
use Rattle.cat_callers.proofs.front.Front.answer_lines.Given as goal

abbrev pub decreases-lines : goal.decreases-lines
decreases-lines g l = length l.rest
