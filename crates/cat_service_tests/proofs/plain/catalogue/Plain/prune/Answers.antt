use Rattle.cat_service_tests.proofs.plain.catalogue.Rising.{views-filter}
use Rattle.cat_service_tests.proofs.plain.catalogue.Sound.{sound_pruned}
use Rattle.cat_service_tests.proofs.plain.catalogue.Plain.prune.Goals as goal

pub invariant_of-self-2 : goal.invariant_of-self-2
invariant_of-self-2 c = (
  rw (c.in_ok-went.ensures.ok, c.deref.ensures.value) (sound_pruned c.args.count _ _ c.self.invariant.0),
  c.self.invariant.1,
  c.self.invariant.2,
  rw c.in_ok-went.ensures.ok (views-filter _ _ _ c.self.invariant.3),
)
