use Rattle.std.proofs.Common.{◌≡◌, take, find, None}
use Rattle.std.specs.Prelude.{◌==◌}
use Rattle.cat_service_tests.proofs.plain.recorded.recorded_under.Given as goal

abbrev pub invariant-loop-view : goal.invariant-loop-view
invariant-loop-view l = find (λ v. v.token == l.token) (take l.view-index l.views) ≡ None
