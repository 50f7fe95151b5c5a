use Rattle.std.proofs.Common.{◌≡◌, map, take}
use Rattle.cat_commits.specs.reading.Judged.{live_ids}
use Rattle.cat_commits.proofs.reading.ids.ids_in.Given as goal

abbrev pub invariant-loop-leaf : goal.invariant-loop-leaf
invariant-loop-leaf l = map (λ t. t.now) l.ids.items ≡ live_ids (take l.leaf-index l.leaves)
