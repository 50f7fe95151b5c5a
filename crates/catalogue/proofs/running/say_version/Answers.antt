use Rattle.std.proofs.Common.{true, false, refl}
use Rattle.catalogue.proofs.running.say_version.Goals as goal

pub returns-in-Ok : goal.returns-in-Ok
returns-in-Ok g c = (true, c.tell_version.new.self, c.in-Ok.ensures, (refl, refl))

pub returns-in-Err : goal.returns-in-Err
returns-in-Err g c = (false, c.tell_version.new.self, c.in-Err.ensures, c.ending_after.ensures)
