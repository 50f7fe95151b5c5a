use Rattle.std.proofs.Common.{◌≡◌, ◌<◌, take, map, length}
use Rattle.std.specs.Prelude.{All}
use Rattle.std.specs.List.{flat_map}
use Rattle.cat_model.specs.Ordinals.{text_at}
use Rattle.cat_columns.specs.Columns.{row_ends_from}
use Rattle.cat_columns.proofs.sets.laid.Given as goal

abbrev pub invariant-loop-row : goal.invariant-loop-row
invariant-loop-row l = record {
  ends : l.ends.items ≡ row_ends_from 0 (map (λ row. row.now) (take l.row-index l.rows));
  ordinals : map (text_at l.dictionary) l.ordinals.items ≡ flat_map (λ row. row.now) (take l.row-index l.rows);
  bound : All (λ o. o < length l.dictionary) l.ordinals.items;
}
