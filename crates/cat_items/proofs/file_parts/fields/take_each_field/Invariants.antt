use Rattle.std.proofs.Common.{◌≡◌, ◌-◌, length}
use Rattle.cat_items.specs.file_parts.Layouts.{field_at}
use Rattle.cat_items.specs.file_parts.Reading.{many_at, with_front}
use Rattle.cat_items.proofs.file_parts.fields.take_each_field.Given as goal

abbrev pub invariant-loop : goal.invariant-loop
invariant-loop l = record {
  read : with_front l.heads.items (many_at field_at (l.count - l.counter) l.cursor) ≡ many_at field_at l.count l.fn.cursor;
  as_many : length l.heads.items ≡ l.counter;
}
