use Rattle.std.proofs.Common.{◌≡◌, map, take}
use Rattle.cat_facets.specs.Met.{label_told}
use Rattle.cat_facets.proofs.first.counts_told.Given as goal

abbrev pub invariant-loop-each : goal.invariant-loop-each
invariant-loop-each l = l.counts.items ≡ map (label_told l.labels) (take l.each-index l.ranked)
