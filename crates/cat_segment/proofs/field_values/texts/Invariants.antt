use Rattle.std.proofs.Common.{◌≡◌, map, take}
use Rattle.std.specs.Prelude.{All}
use Rattle.cat_base.specs.Texts.{IsTextSet}
use Rattle.cat_segment.specs.Fields.{content_in, content_texts, IsFormedIn}
use Rattle.cat_segment.proofs.field_values.texts.Given as goal

abbrev pub invariant-loop-row : goal.invariant-loop-row
invariant-loop-row l = record {
  same : map (λ t. t.now) l.texts.items ≡ map (λ r. content_texts (content_in l.index r.item.now)) (take l.row-index l.rows);
  sets : All (λ t. IsTextSet t.now) l.texts.items;
  formed : All (IsFormedIn l.index) (take l.row-index l.rows);
}
