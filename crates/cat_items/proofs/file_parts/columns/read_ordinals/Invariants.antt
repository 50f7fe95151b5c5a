use Rattle.std.proofs.Common.{◌≡◌, ◌-◌, ◌<◌, ◌^◌, length}
use Rattle.cat_model.specs.Layout.{AreEnds, pieces}
use Rattle.cat_items.specs.file_parts.Reading.{many_at, with_front}
use Rattle.cat_items.specs.file_parts.Layouts.{list_at}
use Rattle.cat_items.proofs.file_parts.columns.read_ordinals.Given as goal

abbrev pub invariant-loop : goal.invariant-loop
invariant-loop l = record {
  read : with_front (pieces 0 l.ends.items l.ordinals.items) (many_at list_at (l.count - l.counter) l.cursor) ≡ many_at list_at l.count l.fn.cursor;
  ends : AreEnds 0 l.ends.items (length l.ordinals.items);
  few : length l.ordinals.items < 2 ^ 32;
}
