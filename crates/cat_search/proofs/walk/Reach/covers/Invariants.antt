use Rattle.std.proofs.Common.{◌≡◌, ◌++◌}
use Rattle.cat_search.proofs.walk.Reach.covers.Given as goal

abbrev pub invariant-loop-row : goal.invariant-loop-row
invariant-loop-row l = record {
  can : (goal.iterator-loop-row).can_next l.row-iterator;
  finite : (goal.iterator-loop-row).is_finite l.row-iterator;
  rows : l.yielded ++ l.row-iterator ≡ l.fn.steps;
}
