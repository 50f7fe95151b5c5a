use Rattle.std.proofs.Common.{◌≡◌, map, take}
use Rattle.cat_search.specs.Sorts.{sort_of}
use Rattle.cat_service_tests.specs.plain.Pages.{shown_by}
use Rattle.cat_service_tests.proofs.plain.finding.entries_of.Given as goal

abbrev pub invariant-loop-hit : goal.invariant-loop-hit
invariant-loop-hit l = l.entries.items ≡ map (shown_by (sort_of l.sort)) (take l.hit-index l.hits)
