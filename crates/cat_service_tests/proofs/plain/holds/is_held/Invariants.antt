use Rattle.std.proofs.Common.{◌≡◌, take, false}
use Rattle.cat_model.specs.State.{held_in}
use Rattle.cat_service_tests.proofs.plain.holds.is_held.Given as goal

abbrev pub invariant-loop-hold : goal.invariant-loop-hold
invariant-loop-hold l = held_in (take l.hold-index l.holds) l.token ≡ false
