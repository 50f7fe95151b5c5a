use Rattle.std.proofs.Common.{◌≡◌, map, take}
use Rattle.cat_views.specs.cat_segment.Filter.{id_hash}
use Rattle.cat_commits.specs.reading.Judged.{live_ids}
use Rattle.cat_commits.proofs.reading.ids.hashes_in.Given as goal

abbrev pub invariant-loop-leaf : goal.invariant-loop-leaf
invariant-loop-leaf l = l.hashes.items ≡ map id_hash (live_ids (take l.leaf-index l.leaves))
