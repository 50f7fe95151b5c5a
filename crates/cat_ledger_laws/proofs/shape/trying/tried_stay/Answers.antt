use Rattle.cat_ledger_laws.proofs.shape.Tried.{tried_stay}
use Rattle.cat_ledger_laws.proofs.shape.trying.tried_stay.Goals as goal

pub returns : goal.returns
returns g c = tried_stay g.D.Holder.may_leave
