use Rattle.cat_segment.proofs.Grouped.{falling_in_order}
use Rattle.cat_segment.proofs.column.Keywords.falling.Goals as goal

pub returns : goal.returns
returns c = falling_in_order c.args.self.now
