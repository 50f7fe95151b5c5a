use Rattle.std.proofs.Common.{◌≡◌, None, replicate}
use Rattle.cat_cached_sets.proofs.filters.looks.no_sets.Given as goal

abbrev pub invariant-loop : goal.invariant-loop
invariant-loop l = l.sets.items ≡ replicate l.counter None
