use Rattle.std.proofs.Common.{◌-◌, ◌<◌, ◌≤◌, length, take, drop}
use Rattle.std.specs.List.{AllByRecursion}
use Rattle.cat_views.specs.Rows.{all_rows}
use Rattle.cat_search.proofs.mark_rows.leaf_of.Given as goal

abbrev pub invariant-loop-high : goal.invariant-loop-high
invariant-loop-high l = record {
  order : l.low < l.high;
  within : l.high ≤ length l.leaves;
  below : AllByRecursion (λ r. r.number < l.number) (all_rows (take l.low l.leaves));
  above : AllByRecursion (λ r. l.number < r.number) (all_rows (drop l.high l.leaves));
}

abbrev pub decreases-loop-high : goal.decreases-loop-high
decreases-loop-high l = l.high - l.low
