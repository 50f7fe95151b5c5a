use Rattle.std.proofs.Common.{◌≡◌, take}
use Rattle.cat_live_table.proofs.current.current.copies_of.Given as goal

abbrev pub invariant-loop-leaf : goal.invariant-loop-leaf
invariant-loop-leaf l = l.copies.items ≡ take l.leaf-index l.leaves
