-- The lines so far stand behind what was there.
use Rattle.std.proofs.Common.{◌≡◌, ◌++◌, take}
use Rattle.std.specs.List.{flat_map}
use Rattle.cat_service_tests.proofs.plain.catalogue.Written.{entry_line}
use Rattle.cat_service_tests.proofs.plain.output.push_entries.Given as goal

abbrev pub invariant-loop-entry : goal.invariant-loop-entry
invariant-loop-entry l = l.to.items ≡ l.fn.to.items ++ flat_map (entry_line l.session) (take l.entry-index l.entries)
