use Rattle.cat_views.proofs.Stored.{live_row}
use Rattle.cat_views.proofs.lookup.live_row_with.Goals as goal

pub returns-in-Some : goal.returns-in-Some
returns-in-Some c =
    live_row c.args.id.now c.args.leaves.now c.loop-leaf.leaf-index c.leaf-item.result c.in-Some.row c.leaf-item.is c.loop-leaf-test.true c.loop-leaf.invariant c.in-Some.ensures
