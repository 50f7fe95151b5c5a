use Rattle.std.proofs.Common.{◌≡◌, ◌-◌}
use Rattle.cat_items.specs.file_parts.Reading.{many_at, u32_at, rest_of}
use Rattle.cat_items.proofs.file_parts.passing.pass_numbers.Given as goal

abbrev pub invariant-loop : goal.invariant-loop
invariant-loop l = rest_of (many_at u32_at (l.count - l.counter) l.cursor) ≡ rest_of (many_at u32_at l.count l.fn.cursor)
