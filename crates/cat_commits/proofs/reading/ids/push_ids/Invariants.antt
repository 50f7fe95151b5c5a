use Rattle.std.proofs.Common.{◌≡◌, ◌++◌, map, take}
use Rattle.cat_model.specs.View.{selected}
use Rattle.cat_commits.proofs.reading.ids.push_ids.Given as goal

abbrev pub invariant-loop-row : goal.invariant-loop-row
invariant-loop-row l =
    map (λ t. t.now) l.ids.items ≡ map (λ t. t.now) l.fn.ids.items ++ map (λ r. r.id) (selected (take l.row l.leaf.live) (take l.row l.leaf.segment.rows))
