use Rattle.std.proofs.Common.{◌≡◌, ◌+◌, take}
use Rattle.cat_merge.specs.Maps.{codes_from}
use Rattle.cat_merge.proofs.Codes.{count}
use Rattle.cat_merge.proofs.row_maps.row_map.Given as goal

abbrev pub invariant-loop-row : goal.invariant-loop-row
invariant-loop-row l = record {
  map : l.map.items ≡ codes_from l.first (take l.row l.live);
  next : l.next ≡ l.first + count (take l.row l.live);
}
