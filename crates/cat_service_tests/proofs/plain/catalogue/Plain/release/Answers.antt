use Rattle.cat_service_tests.proofs.plain.catalogue.Sound.{sound_closed}
use Rattle.cat_service_tests.proofs.plain.catalogue.Plain.release.Goals as goal

pub invariant_of-self : goal.invariant_of-self
invariant_of-self c = (rw c.remove_hold.ensures (sound_closed _ _ _ c.self.invariant.0), c.self.invariant.1, c.self.invariant.2, c.self.invariant.3)
