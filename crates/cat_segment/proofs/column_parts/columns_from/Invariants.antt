use Rattle.std.proofs.Common.{◌≡◌, ◌++◌, false}
use Rattle.std.specs.Prelude.{All}
use Rattle.std.specs.Vec.Iter.{into_iter_items}
use Rattle.cat_segment.specs.Index.{AreAllRows}
use Rattle.cat_segment.specs.Parts.{HasNoColumn, AreColumnsOf}
use Rattle.cat_segment.proofs.column_parts.columns_from.Given as goal

abbrev pub invariant-loop-part : goal.invariant-loop-part
invariant-loop-part l = record {
  columns : l.is_short ≡ false → AreColumnsOf l.rows l.yielded l.columns.items;
  judged : All (λ p. HasNoColumn l.rows p → ⊥) l.yielded;
  orders : All (λ order. AreAllRows l.rows order.items) (into_iter_items l.orders);
  left : l.fn.parts.items ≡ l.yielded ++ l.part-iterator.rest.items;
}
