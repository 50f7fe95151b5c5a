use Rattle.std.proofs.Common.{◌≡◌, map, take}
use Rattle.cat_directory.specs.Names.{name_of}
use Rattle.cat_ledger_laws.specs.shape.Shapes.{names_of_leaves}
use Rattle.cat_ledger_state.proofs.installs.files_of_all.Given as goal

abbrev pub invariant-loop-leaf : goal.invariant-loop-leaf
invariant-loop-leaf l = map name_of l.names.items ≡ names_of_leaves (take l.leaf-index l.leaves)
