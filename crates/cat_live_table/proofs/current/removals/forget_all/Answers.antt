use Rattle.std.specs.HashMap.{get_by_text}
use Rattle.cat_live_table.proofs.current.Removed.{lost-more}
use Rattle.cat_live_table.proofs.current.removals.forget_all.Goals as goal

pub loop-removal-preserved : goal.loop-removal-preserved
loop-removal-preserved c = λ id.
    lost-more c.args.removals.now c.loop-removal.removal-index c.removal-item.result id (get_by_text c.args.places.now id) (get_by_text c.loop-removal.places id) (get_by_text c.forget.new.places id)
    c.loop-removal-test.true c.removal-item.is (c.loop-removal.invariant id) (c.forget.ensures id)
