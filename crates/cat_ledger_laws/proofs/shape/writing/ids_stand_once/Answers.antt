use Rattle.cat_ledger_laws.proofs.shape.Writes.{ids_stand_once}
use Rattle.cat_ledger_laws.proofs.shape.writing.ids_stand_once.Goals as goal

pub returns : goal.returns
returns c = ids_stand_once
