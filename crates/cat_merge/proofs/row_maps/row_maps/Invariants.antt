use Rattle.std.proofs.Common.{◌≡◌, take, map}
use Rattle.std.specs.List.{flat_map}
use Rattle.cat_merge.specs.Maps.{codes_of}
use Rattle.cat_merge.proofs.Codes.{count}
use Rattle.cat_merge.proofs.row_maps.row_maps.Given as goal

abbrev pub invariant-loop-input : goal.invariant-loop-input
invariant-loop-input l = record {
  maps : map (λ m. m.items) l.maps.items ≡ take l.input-index (codes_of 0 l.inputs);
  first : l.first ≡ count (flat_map (λ leaf. leaf.live) (take l.input-index l.inputs));
}
