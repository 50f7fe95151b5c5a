use Rattle.std.proofs.Common.{◌≡◌, map, take, option_map}
use Rattle.std.specs.Prelude.{All}
use Rattle.cat_model.specs.Item.{keyword_in}
use Rattle.cat_segment.specs.Fields.{content_in, IsFormedIn}
use Rattle.cat_segment.proofs.field_values.keywords.Given as goal

abbrev pub invariant-loop-row : goal.invariant-loop-row
invariant-loop-row l = record {
  same : map (option_map (λ t. t.now)) l.keywords.items ≡ map (λ r. keyword_in (content_in l.index r.item.now)) (take l.row-index l.rows);
  formed : All (IsFormedIn l.index) (take l.row-index l.rows);
}
