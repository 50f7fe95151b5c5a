use Rattle.cat_ledger_laws.proofs.model.Schemas.{schemas_stay}
use Rattle.cat_ledger_laws.proofs.model.schemas_stay.Goals as goal

pub returns : goal.returns
returns c = schemas_stay
