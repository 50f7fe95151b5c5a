use Rattle.std.proofs.Common.{◌≡◌, ◌-◌}
use Rattle.cat_items.specs.file_parts.Layouts.{fits}
use Rattle.cat_items.specs.file_parts.Reading.{tested_text_at, many_at, with_front}
use Rattle.cat_items.proofs.file_parts.lists.read_texts.Given as goal

abbrev pub invariant-loop : goal.invariant-loop
invariant-loop l = with_front l.out.items (many_at (tested_text_at (fits l.form)) (l.count - l.counter) l.cursor) ≡ many_at (tested_text_at (fits l.form)) l.count l.fn.cursor
