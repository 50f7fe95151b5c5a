use Rattle.std.proofs.Common.{sym}
use Rattle.cat_check.proofs.telling.tell_damage.Goals as goal

pub returns-in-Damaged : goal.returns-in-Damaged
returns-in-Damaged g c = record { text = rw c.in-Damaged.is (rw (sym c.deref.ensures.value) c.tell_faults.ensures.text) }
