use Rattle.std.proofs.Common.{◌≡◌, count_by, take}
use Rattle.cat_model.specs.RowSets.{has_row}
use Rattle.cat_search.proofs.ranges.count_among.Given as goal

abbrev pub invariant-loop-row : goal.invariant-loop-row
invariant-loop-row l = l.count ≡ count_by (has_row l.set) (take l.row-index l.rows)
