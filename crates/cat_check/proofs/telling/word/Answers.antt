use Rattle.std.proofs.Common.{refl}
use Rattle.cat_check.proofs.telling.word.Goals as goal

pub returns-in-Damaged : goal.returns-in-Damaged
returns-in-Damaged c = rw c.in-Damaged.is refl
