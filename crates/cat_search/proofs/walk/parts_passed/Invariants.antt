use Rattle.std.proofs.Common.{◌≤◌, ◌-◌, length}
use Rattle.std.specs.List.{All}
use Rattle.cat_views.specs.cat_segment.RowParts.{parts_of, rows_of_parts_before}
use Rattle.cat_search.specs.Candidates.{mark_standing}
use Rattle.cat_search.proofs.Walked.{Passed}
use Rattle.cat_search.proofs.walk.parts_passed.Given as goal

abbrev pub invariant-loop-low : goal.invariant-loop-low
invariant-loop-low l = record {
  order : l.low ≤ l.high;
  bound : l.high ≤ length (parts_of l.walk);
  passed : All (Passed (mark_standing l.mark) l.ranks) (rows_of_parts_before l.walk l.low);
}

abbrev pub decreases-loop-low : goal.decreases-loop-low
decreases-loop-low l = l.high - l.low
