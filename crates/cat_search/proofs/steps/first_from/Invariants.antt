use Rattle.std.proofs.Common.{◌≡◌, ◌≤◌, ◌-◌, length}
use Rattle.cat_views.specs.cat_segment.RowParts.{parts_of}
use Rattle.cat_search.specs.Steps.{rows_of_parts_from}
use Rattle.cat_search.proofs.steps.first_from.Given as goal

abbrev pub invariant-loop-index : goal.invariant-loop-index
invariant-loop-index l = record {
  bound : l.index ≤ length (parts_of l.parts);
  rows : rows_of_parts_from l.parts l.from ≡ rows_of_parts_from l.parts l.index;
}

abbrev pub decreases-loop-index : goal.decreases-loop-index
decreases-loop-index l = length (parts_of l.parts) - l.index
