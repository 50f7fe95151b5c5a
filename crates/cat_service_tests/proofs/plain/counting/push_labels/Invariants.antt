use Rattle.std.proofs.Common.{◌≡◌, ◌++◌, take}
use Rattle.cat_service_tests.proofs.plain.counting.push_labels.Given as goal

abbrev pub invariant-loop-label : goal.invariant-loop-label
invariant-loop-label l = l.texts.items ≡ l.fn.texts.items ++ take l.label-index l.labels
