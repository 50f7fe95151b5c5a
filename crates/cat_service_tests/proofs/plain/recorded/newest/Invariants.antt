use Rattle.std.proofs.Common.{◌≡◌, take}
use Rattle.cat_model.specs.Run.{greatest}
use Rattle.cat_model.specs.State.{tokens}
use Rattle.cat_service_tests.proofs.plain.recorded.newest.Given as goal

abbrev pub invariant-loop-view : goal.invariant-loop-view
invariant-loop-view l = l.newest ≡ greatest (tokens (take l.view-index l.views))
