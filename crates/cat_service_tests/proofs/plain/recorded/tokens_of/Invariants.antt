use Rattle.std.proofs.Common.{◌≡◌, take}
use Rattle.cat_model.specs.State.{tokens}
use Rattle.cat_service_tests.proofs.plain.recorded.tokens_of.Given as goal

abbrev pub invariant-loop-view : goal.invariant-loop-view
invariant-loop-view l = l.tokens.items ≡ tokens (take l.view-index l.views)
