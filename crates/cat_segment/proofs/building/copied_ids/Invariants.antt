use Rattle.std.proofs.Common.{◌≡◌, true, map, take}
use Rattle.std.specs.Prelude.{All}
use Rattle.cat_model.specs.Item.{is_id}
use Rattle.cat_segment.proofs.building.copied_ids.Given as goal

abbrev pub invariant-loop-row : goal.invariant-loop-row
invariant-loop-row l = record {
  same : l.ids.items ≡ map (λ r. r.item.now.id) (take l.row-index l.rows);
  forms : All (λ r. is_id r.item.now.id ≡ true) (take l.row-index l.rows);
}
