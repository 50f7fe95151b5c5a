use Rattle.std.proofs.Common.{◌≡◌, length, take}
use Rattle.std.specs.List.{flat_map}
use Rattle.cat_model.specs.View.{live_rows}
use Rattle.cat_merge.proofs.counting.live_rows_in.Given as goal

abbrev pub invariant-loop-input : goal.invariant-loop-input
invariant-loop-input l = l.rows ≡ length (flat_map live_rows (take l.input-index l.inputs))
