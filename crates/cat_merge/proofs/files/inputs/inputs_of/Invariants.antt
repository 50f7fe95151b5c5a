use Rattle.std.proofs.Common.{◌≡◌, take}
use Rattle.cat_merge.proofs.files.inputs.inputs_of.Given as goal

abbrev pub invariant-loop-leaf : goal.invariant-loop-leaf
invariant-loop-leaf l = l.inputs.items ≡ take l.leaf-index l.leaves
