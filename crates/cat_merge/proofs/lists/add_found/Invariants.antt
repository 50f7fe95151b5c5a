use Rattle.std.proofs.Common.{◌≡◌, ◌++◌, map, take}
use Rattle.std.specs.Prelude.{slice_index}
use Rattle.cat_merge.proofs.lists.add_found.Given as goal

abbrev pub invariant-loop-index : goal.invariant-loop-index
invariant-loop-index l = l.numbers.items ≡ l.initial.numbers.items ++ map (slice_index l.found) (take l.index-index l.indices)
