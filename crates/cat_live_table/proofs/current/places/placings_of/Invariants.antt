use Rattle.std.proofs.Common.{◌≡◌, ◌++◌, map}
use Rattle.cat_model.specs.RowSets.{indices}
use Rattle.cat_live_table.proofs.current.Standing.{key_at}
use Rattle.cat_live_table.proofs.current.places.placings_of.Given as goal

abbrev pub invariant-loop-row : goal.invariant-loop-row
invariant-loop-row l = record {
  can : (goal.iterator-loop-row).can_next l.row-iterator;
  finite : (goal.iterator-loop-row).is_finite l.row-iterator;
  rows : l.yielded ++ l.row-iterator ≡ indices l.leaf.live;
  made : l.placings.items ≡ map (key_at l.leaf) l.yielded;
}
