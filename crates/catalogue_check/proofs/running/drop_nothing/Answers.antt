use Rattle.std.proofs.Common.{refl}
use Rattle.catalogue_check.proofs.running.drop_nothing.Goals as goal

pub returns-in-InUse : goal.returns-in-InUse
returns-in-InUse g c = rw c.in-InUse.is (c.say.new.self, c.say-in-InUse.new.self, c.say.ensures, c.say-in-InUse.ensures, c.judge_at.ensures)

pub returns-in-Device : goal.returns-in-Device
returns-in-Device g c = rw c.in-Device.is (refl, refl)

pub returns-in-Memory : goal.returns-in-Memory
returns-in-Memory g c = rw c.in-Memory.is (refl, refl)
