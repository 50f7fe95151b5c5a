use Rattle.cat_ledger_laws.proofs.model.Merges.{kept_may_stand}
use Rattle.cat_ledger_laws.proofs.model.kept_may_stand.Goals as goal

pub returns : goal.returns
returns c = kept_may_stand
