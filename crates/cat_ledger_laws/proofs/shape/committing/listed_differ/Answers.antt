use Rattle.cat_ledger_laws.proofs.shape.Listed.{listed_differ}
use Rattle.cat_ledger_laws.proofs.shape.committing.listed_differ.Goals as goal

pub returns : goal.returns
returns c = listed_differ
