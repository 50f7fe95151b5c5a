use Rattle.cat_ledger_laws.proofs.shape.Tried.{tried_are_found}
use Rattle.cat_ledger_laws.proofs.shape.trying.tried_are_found.Goals as goal

pub returns : goal.returns
returns g c = tried_are_found g.D.Holder.may_leave
