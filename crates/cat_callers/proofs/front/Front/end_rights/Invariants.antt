use Rattle.std.proofs.Common.{length}
use Rattle.cat_callers.proofs.front.Front.end_rights.Given as goal

abbrev pub decreases-rights : goal.decreases-rights
decreases-rights g l = length l.rights
