use Rattle.cat_ledger_laws.proofs.shape.Listed.{live_may_be_written}
use Rattle.cat_ledger_laws.proofs.shape.committing.live_may_be_written.Goals as goal

pub returns : goal.returns
returns c = live_may_be_written
