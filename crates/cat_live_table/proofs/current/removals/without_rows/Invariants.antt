use Rattle.std.proofs.Common.{◌≡◌, ◌++◌}
use Rattle.cat_model.specs.RowSets.{indices}
use Rattle.cat_live_table.proofs.current.Removed.{killed}
use Rattle.cat_live_table.proofs.current.removals.without_rows.Given as goal

-- killing the rows that are left gives what killing all gives
abbrev pub invariant-loop-row : goal.invariant-loop-row
invariant-loop-row l = record {
  can : (goal.iterator-loop-row).can_next l.row-iterator;
  finite : (goal.iterator-loop-row).is_finite l.row-iterator;
  rows : l.yielded ++ l.row-iterator ≡ indices l.rows;
  segment : l.after.segment ≡ l.leaf.segment;
  rest : killed l.row-iterator l.after.live ≡ killed (indices l.rows) l.leaf.live;
}
