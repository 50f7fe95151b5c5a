use Rattle.std.proofs.Common.{◌≡◌, map, take}
use Rattle.cat_live_table.proofs.current.removals.leaves_left.Given as goal

abbrev pub invariant-loop-removal : goal.invariant-loop-removal
invariant-loop-removal l = l.leaves.items ≡ map (λ r. r.leaf) (take l.removal-index l.removals)
