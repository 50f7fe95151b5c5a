use Rattle.std.proofs.Common.{take}
use Rattle.cat_model.specs.State.{held_in}
use Rattle.cat_service_tests.specs.plain.Tables.{IsLeastFree}
use Rattle.cat_service_tests.proofs.plain.recorded.least_free.Given as goal

abbrev pub invariant-loop-view : goal.invariant-loop-view
invariant-loop-view l = IsLeastFree (held_in l.holds) (take l.view-index l.views) l.least
