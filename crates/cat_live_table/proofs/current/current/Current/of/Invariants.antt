use Rattle.std.proofs.Common.{◌≡◌, ◌++◌}
use Rattle.std.specs.Vec.Iter.{into_iter_items}
use Rattle.cat_live_table.proofs.current.current.Current.of.Given as goal

abbrev pub invariant-loop-leaf : goal.invariant-loop-leaf
invariant-loop-leaf l = record {
  can : (goal.iterator-loop-leaf).can_next l.leaf-iterator;
  finite : (goal.iterator-loop-leaf).is_finite l.leaf-iterator;
  rest : l.current ++ into_iter_items l.leaf-iterator ≡ l.fn.leaves.items;
}
