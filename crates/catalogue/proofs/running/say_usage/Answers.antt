use Rattle.std.proofs.Common.{refl}
use Rattle.catalogue.proofs.running.say_usage.Goals as goal

pub returns : goal.returns
returns g c = (c.tell_usage.ensures, refl)
