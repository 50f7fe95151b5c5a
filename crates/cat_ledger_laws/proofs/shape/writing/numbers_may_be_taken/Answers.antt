use Rattle.cat_ledger_laws.proofs.shape.Writes.{numbers_may_be_taken}
use Rattle.cat_ledger_laws.proofs.shape.writing.numbers_may_be_taken.Goals as goal

pub returns : goal.returns
returns c = numbers_may_be_taken
