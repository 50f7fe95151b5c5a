use Rattle.std.proofs.Common.{◌≡◌, map, take}
use Rattle.std.specs.Prelude.{All}
use Rattle.cat_model.specs.Item.{number_in}
use Rattle.cat_segment.specs.Fields.{content_in, IsFormedIn}
use Rattle.cat_segment.proofs.field_values.numbers.Given as goal

abbrev pub invariant-loop-row : goal.invariant-loop-row
invariant-loop-row l = record {
  same : l.numbers.items ≡ map (λ r. number_in (content_in l.index r.item.now)) (take l.row-index l.rows);
  formed : All (IsFormedIn l.index) (take l.row-index l.rows);
}
