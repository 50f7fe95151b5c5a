use Rattle.cat_segment.proofs.Grouped.{rising_in_order}
use Rattle.cat_segment.proofs.column.Keywords.rising.Goals as goal

pub returns : goal.returns
returns c = rising_in_order c.args.self.now
