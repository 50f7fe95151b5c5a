use Rattle.std.proofs.Common.{refl}
use Rattle.catalogue_check.proofs.running.tell_found.Goals as goal

pub returns-in-Ok-clause-found : goal.returns-in-Ok-clause-found
returns-in-Ok-clause-found g c = (c.in-Ok.checked, c.in-Ok.ensures.ok, c.show.ensures, c.of-ending.ensures)

pub returns-in-Ok-clause-frame : goal.returns-in-Ok-clause-frame
returns-in-Ok-clause-frame g c = c.in-Ok.ensures.frame

pub returns-in-Err-clause-found : goal.returns-in-Err-clause-found
returns-in-Err-clause-found g c = (refl, c.in-Err.ensures.device)

pub returns-in-Err-clause-frame : goal.returns-in-Err-clause-frame
returns-in-Err-clause-frame g c = c.in-Err.ensures.frame
