use Rattle.std.proofs.Common.{◌≡◌, ℕ, ◌+◌, ◌<◌, length, get_or, take}
use Rattle.cat_facets.specs.Tallies.{globals_of, occurrences}
use Rattle.cat_facets.proofs.counting.add_row.Given as goal

abbrev pub invariant-loop-ordinal : goal.invariant-loop-ordinal
invariant-loop-ordinal l = (g : ℕ) → g < length l.totals → get_or l.totals g 0 ≡ get_or l.initial.totals g 0 + occurrences g (globals_of l.globals (take l.ordinal-index l.ordinals))
