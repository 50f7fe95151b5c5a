use Rattle.cat_ledger_laws.proofs.shape.Listed.{leaving_are_counted}
use Rattle.cat_ledger_laws.proofs.shape.committing.leaving_are_counted.Goals as goal

pub returns : goal.returns
returns c = leaving_are_counted
