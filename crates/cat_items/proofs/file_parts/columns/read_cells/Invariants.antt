use Rattle.std.proofs.Common.{◌≡◌, ◌-◌}
use Rattle.cat_items.specs.file_parts.Layouts.{cell_at}
use Rattle.cat_items.specs.file_parts.Reading.{many_at, with_front}
use Rattle.cat_items.proofs.file_parts.columns.read_cells.Given as goal

abbrev pub invariant-loop : goal.invariant-loop
invariant-loop l = with_front l.out.items (many_at cell_at (l.count - l.counter) l.cursor) ≡ many_at cell_at l.count l.fn.cursor
