use Rattle.std.proofs.Common.{◌≡◌, ◌-◌}
use Rattle.cat_items.specs.file_parts.Reading.{many_at, tested_text_at, rest_of}
use Rattle.cat_items.specs.file_parts.Layouts.{fits}
use Rattle.cat_items.proofs.file_parts.passing.pass_texts.Given as goal

abbrev pub invariant-loop : goal.invariant-loop
invariant-loop l = rest_of (many_at (tested_text_at (fits l.form)) (l.count - l.counter) l.cursor) ≡ rest_of (many_at (tested_text_at (fits l.form)) l.count l.fn.cursor)
