use Rattle.cat_ledger_laws.proofs.shape.MergeCopies.{copies_make}
use Rattle.cat_ledger_laws.proofs.shape.merging.copies_make.Goals as goal

pub returns : goal.returns
returns c = copies_make
