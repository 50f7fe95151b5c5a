use Rattle.cat_ledger_laws.proofs.shape.Listed.{names_are_begun}
use Rattle.cat_ledger_laws.proofs.shape.committing.names_are_begun.Goals as goal

pub returns : goal.returns
returns c = names_are_begun
