use Rattle.std.proofs.Common.{◌≡◌, take, false}
use Rattle.cat_model.specs.State.{has_view}
use Rattle.cat_service_tests.proofs.plain.recorded.is_recorded.Given as goal

abbrev pub invariant-loop-view : goal.invariant-loop-view
invariant-loop-view l = has_view (take l.view-index l.views) l.token ≡ false
