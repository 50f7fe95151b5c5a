use Rattle.cat_callers.proofs.Telling.{popped}
use Rattle.cat_callers.proofs.front.Front.end_rights.Goals as goal

pub rights-smaller : goal.rights-smaller
rights-smaller g c = popped c.pop.new.self c.rights.rights c.pop.result c.in-Some.hold c.in-Some.is c.pop.ensures.len
