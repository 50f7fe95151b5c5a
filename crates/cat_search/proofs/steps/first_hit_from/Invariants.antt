use Rattle.std.proofs.Common.{◌≤◌, ◌-◌, ◌++◌, length}
use Rattle.cat_views.specs.cat_segment.RowParts.{parts_of}
use Rattle.cat_search.specs.Steps.{IsBehindMisses, rows_of_parts_from}
use Rattle.cat_search.proofs.steps.first_hit_from.Given as goal

abbrev pub invariant-loop-following : goal.invariant-loop-following
invariant-loop-following l = record {
  part : l.following ≤ length (parts_of l.parts);
  missed : IsBehindMisses l.set (l.left ++ rows_of_parts_from l.parts l.next) (l.rows ++ rows_of_parts_from l.parts l.following);
}

abbrev pub decreases-loop-following : goal.decreases-loop-following
decreases-loop-following l = length (parts_of l.parts) - l.following
