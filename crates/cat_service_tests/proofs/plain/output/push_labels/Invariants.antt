-- The lines so far stand behind what was there.
use Rattle.std.proofs.Common.{◌≡◌, ◌++◌, take}
use Rattle.std.specs.List.{flat_map}
use Rattle.cat_service_tests.proofs.plain.catalogue.Written.{label_line}
use Rattle.cat_service_tests.proofs.plain.output.push_labels.Given as goal

abbrev pub invariant-loop-counted : goal.invariant-loop-counted
invariant-loop-counted l = l.to.items ≡ l.fn.to.items ++ flat_map (label_line l.session) (take l.counted-index l.counts)
