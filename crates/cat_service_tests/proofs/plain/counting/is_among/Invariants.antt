use Rattle.std.proofs.Common.{◌≡◌, take, false}
use Rattle.std.specs.List.{list_any}
use Rattle.cat_model.specs.Text.{same_text}
use Rattle.cat_service_tests.proofs.plain.counting.is_among.Given as goal

abbrev pub invariant-loop-other : goal.invariant-loop-other
invariant-loop-other l = list_any (same_text l.label) (take l.other-index l.labels) ≡ false
