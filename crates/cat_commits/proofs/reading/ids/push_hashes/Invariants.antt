use Rattle.std.proofs.Common.{◌≡◌, ◌++◌, map, take}
use Rattle.cat_model.specs.View.{selected}
use Rattle.cat_views.specs.cat_segment.Filter.{id_hash}
use Rattle.cat_commits.proofs.reading.ids.push_hashes.Given as goal

abbrev pub invariant-loop-row : goal.invariant-loop-row
invariant-loop-row l =
    l.hashes.items ≡ l.fn.hashes.items ++ map (λ r. id_hash r.id) (selected (take l.row l.leaf.live) (take l.row l.leaf.segment.rows))
