use Rattle.std.proofs.Common.{◌≡◌, map, take}
use Rattle.cat_search.specs.Standings.{entry_shown}
use Rattle.cat_search.specs.Candidates.{standing_of}
use Rattle.cat_search.proofs.entries.entries_of.Given as goal

abbrev pub invariant-loop-candidate : goal.invariant-loop-candidate
invariant-loop-candidate l = l.entries.items ≡ map entry_shown (map standing_of (take l.candidate-index l.candidates))
