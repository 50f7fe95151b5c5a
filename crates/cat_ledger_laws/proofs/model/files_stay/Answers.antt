use Rattle.cat_ledger_laws.proofs.model.Stored.{files_stay}
use Rattle.cat_ledger_laws.proofs.model.files_stay.Goals as goal

pub returns : goal.returns
returns c = files_stay
