use Rattle.std.proofs.Common.{◌≡◌, take}
use Rattle.cat_facets.specs.Tallies.{labelled_count}
use Rattle.cat_facets.proofs.leaf.count_labelled.Given as goal

abbrev pub invariant-loop-row : goal.invariant-loop-row
invariant-loop-row l = l.labelled ≡ labelled_count (take l.row l.column)
