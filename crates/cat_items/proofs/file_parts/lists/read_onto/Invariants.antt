use Rattle.std.proofs.Common.{◌≡◌, ◌-◌}
use Rattle.cat_items.specs.file_parts.Reading.{u32_at, many_at, with_front}
use Rattle.cat_items.proofs.file_parts.lists.read_onto.Given as goal

abbrev pub invariant-loop : goal.invariant-loop
invariant-loop l = with_front l.out.items (many_at u32_at (l.count - l.counter) l.cursor) ≡ with_front l.fn.out.items (many_at u32_at l.count l.fn.cursor)
