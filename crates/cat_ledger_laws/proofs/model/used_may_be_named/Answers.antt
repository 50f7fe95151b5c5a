use Rattle.cat_ledger_laws.proofs.model.Written.{used_may_be_named}
use Rattle.cat_ledger_laws.proofs.model.used_may_be_named.Goals as goal

pub returns : goal.returns
returns c = used_may_be_named
