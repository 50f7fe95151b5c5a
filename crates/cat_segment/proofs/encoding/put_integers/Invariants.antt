use Rattle.std.proofs.Common.{◌≡◌, ◌++◌, take}
use Rattle.std.specs.List.{flat_map}
use Rattle.cat_model.specs.Layout.{spelled_number}
use Rattle.cat_segment.proofs.encoding.put_integers.Given as goal

abbrev pub invariant-loop-row : goal.invariant-loop-row
invariant-loop-row l = l.out.items ≡ l.fn.out.items ++ flat_map spelled_number (take l.row l.values)
