use Rattle.std.proofs.Common.{◌≡◌, map, take, length}
use Rattle.std.specs.Prelude.{All}
use Rattle.cat_model.specs.Forms.{IsSourceLength}
use Rattle.cat_segment.proofs.building.sources.Given as goal

abbrev pub invariant-loop-row : goal.invariant-loop-row
invariant-loop-row l = record {
  same : l.sources ≡ map (λ r. length r.item.now.source) (take l.row-index l.rows);
  sizes : All (λ r. IsSourceLength (length r.item.now.source)) (take l.row-index l.rows);
}
