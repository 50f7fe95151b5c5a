use Rattle.std.proofs.Common.{◌≡◌, take, false}
use Rattle.std.specs.List.{list_any}
use Rattle.std.specs.Prelude.{◌==◌}
use Rattle.cat_cached_sets.proofs.filters.filters.has_number.Given as goal

abbrev pub invariant-loop-leaf : goal.invariant-loop-leaf
invariant-loop-leaf l = list_any (λ x. x.segment.number == l.number) (take l.leaf-index l.leaves) ≡ false
