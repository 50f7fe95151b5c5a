use Rattle.std.proofs.Common.{refl}
use Rattle.catalogue_check.proofs.running.tell_usage.Goals as goal

pub returns : goal.returns
returns g c = (c.say.ensures, refl)
