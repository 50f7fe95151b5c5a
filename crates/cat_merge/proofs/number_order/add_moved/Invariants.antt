use Rattle.std.proofs.Common.{◌≡◌, ◌++◌, take}
use Rattle.cat_columns.specs.Merged.{moved}
use Rattle.cat_merge.proofs.number_order.add_moved.Given as goal

abbrev pub invariant-loop-row : goal.invariant-loop-row
invariant-loop-row l = l.order.items ≡ l.fn.order.items ++ moved l.row_map (take l.row-index l.rows)
