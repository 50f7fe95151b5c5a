use Rattle.cat_model.proofs.HitOrder.{sorts_order_records}
use Rattle.cat_model.proofs.sorts_order_records.Goals as goal

pub returns : goal.returns
returns c = sorts_order_records
