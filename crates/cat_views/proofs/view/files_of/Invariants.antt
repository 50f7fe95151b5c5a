use Rattle.std.proofs.Common.{◌≡◌, map, take}
use Rattle.std.specs.List.{flat_map}
use Rattle.cat_directory.specs.Names.{name_of}
use Rattle.cat_views.specs.Views.{leaf_names}
use Rattle.cat_views.proofs.view.files_of.Given as goal

abbrev pub invariant-loop-leaf : goal.invariant-loop-leaf
invariant-loop-leaf l = map name_of l.names.items ≡ flat_map leaf_names (take l.leaf-index l.leaves)
