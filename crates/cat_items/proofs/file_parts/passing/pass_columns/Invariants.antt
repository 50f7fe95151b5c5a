use Rattle.std.proofs.Common.{◌≡◌, drop}
use Rattle.cat_items.specs.file_parts.Reading.{rest_of}
use Rattle.cat_items.specs.file_parts.Layouts.{columns_at}
use Rattle.cat_items.proofs.file_parts.passing.pass_columns.Given as goal

abbrev pub invariant-loop-field : goal.invariant-loop-field
invariant-loop-field l = rest_of (columns_at l.rows (drop l.field-index l.fields) l.cursor) ≡ rest_of (columns_at l.rows l.fields l.fn.cursor)
