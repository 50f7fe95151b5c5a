use Rattle.std.proofs.Common.{◌≡◌, take, false}
use Rattle.std.specs.List.{list_any, flat_map}
use Rattle.cat_model.specs.View.{live_rows}
use Rattle.cat_views.specs.Sources.{has_id}
use Rattle.cat_views.proofs.lookup.live_row_with.Given as goal

abbrev pub invariant-loop-leaf : goal.invariant-loop-leaf
invariant-loop-leaf l = list_any (has_id l.id) (flat_map live_rows (take l.leaf-index l.leaves)) ≡ false
