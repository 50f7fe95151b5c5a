use Rattle.std.proofs.Common.{◌≡◌, take, false}
use Rattle.cat_model.specs.State.{has_hold}
use Rattle.cat_service_tests.proofs.plain.holds.is_holding.Given as goal

abbrev pub invariant-loop-hold : goal.invariant-loop-hold
invariant-loop-hold l = has_hold (take l.hold-index l.holds) l.session l.token ≡ false
