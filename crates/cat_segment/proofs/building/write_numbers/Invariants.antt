use Rattle.std.proofs.Common.{◌≡◌, ◌<◌, ◌^◌, map, take}
use Rattle.std.specs.Prelude.{All}
use Rattle.cat_segment.proofs.building.write_numbers.Given as goal

abbrev pub invariant-loop-row : goal.invariant-loop-row
invariant-loop-row l = record {
  same : l.numbers.items ≡ map (λ r. r.number) (take l.row-index l.rows);
  fit : All (λ r. r.number < 2 ^ 64) (take l.row-index l.rows);
}
