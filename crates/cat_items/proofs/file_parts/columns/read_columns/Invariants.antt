use Rattle.std.proofs.Common.{◌≡◌, map, drop}
use Rattle.std.specs.List.{All}
use Rattle.cat_items.specs.file_parts.Reading.{with_front}
use Rattle.cat_items.specs.file_parts.Layouts.{columns_at}
use Rattle.cat_items.specs.file_parts.Parts.{column_in, IsColumnParts}
use Rattle.cat_items.proofs.file_parts.columns.read_columns.Given as goal

abbrev pub invariant-loop-field : goal.invariant-loop-field
invariant-loop-field l = record {
  read : with_front (map column_in l.out.items) (columns_at l.rows (drop l.field-index l.fields) l.cursor) ≡ columns_at l.rows l.fields l.fn.cursor;
  formed : All IsColumnParts l.out.items;
}
