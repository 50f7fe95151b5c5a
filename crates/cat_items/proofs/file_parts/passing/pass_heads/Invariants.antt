use Rattle.std.proofs.Common.{◌≡◌, ◌-◌}
use Rattle.cat_items.specs.file_parts.Reading.{many_at, rest_of}
use Rattle.cat_items.specs.file_parts.Layouts.{head_at}
use Rattle.cat_items.proofs.file_parts.passing.pass_heads.Given as goal

abbrev pub invariant-loop : goal.invariant-loop
invariant-loop l = rest_of (many_at head_at (l.count - l.counter) l.cursor) ≡ rest_of (many_at head_at l.count l.fn.cursor)
