use Rattle.std.proofs.Common.{◌≡◌, ◌-◌, length}
use Rattle.cat_items.specs.file_parts.Reading.{many_at, with_front}
use Rattle.cat_items.specs.file_parts.Layouts.{head_at}
use Rattle.cat_items.specs.file_parts.Parts.{heads_in}
use Rattle.cat_items.proofs.file_parts.heads.read_heads.Given as goal

abbrev pub invariant-loop : goal.invariant-loop
invariant-loop l = record {
  read : with_front (heads_in l.numbers.items l.ids.items l.lengths.items) (many_at head_at (l.count - l.counter) l.cursor) ≡ many_at head_at l.count l.fn.cursor;
  ids : length l.ids.items ≡ length l.numbers.items;
  lengths : length l.lengths.items ≡ length l.numbers.items;
}
