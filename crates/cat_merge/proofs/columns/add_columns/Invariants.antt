use Rattle.std.proofs.Common.{◌≡◌, length}
use Rattle.std.specs.Prelude.{All}
use Rattle.cat_views.specs.cat_segment.Index.{AreAllRows}
use Rattle.cat_merge.specs.Fields.{kept_rows, AreFirstColumns}
use Rattle.cat_merge.proofs.columns.add_columns.Given as goal

abbrev pub invariant-loop : goal.invariant-loop
invariant-loop l = record {
  many : length l.columns.items ≡ l.counter;
  orders : All (λ order. AreAllRows (length (kept_rows l.inputs)) order.items) l.orders.items;
  columns : AreFirstColumns l.fields (kept_rows l.inputs) l.columns.items;
}
