use Rattle.cat_service_tests.proofs.plain.catalogue.Sound.{newest_has}
use Rattle.cat_service_tests.proofs.plain.catalogue.Plain.newest_token.Goals as goal

pub returns-clause-recorded : goal.returns-clause-recorded
returns-clause-recorded c = rw (c.newest.ensures, c.deref.ensures.value, ← c.self.view_is) (newest_has _ _ c.self.invariant.0)
