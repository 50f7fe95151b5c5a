use Rattle.cat_ledger_laws.proofs.shape.Tried.{tried_begin}
use Rattle.cat_ledger_laws.proofs.shape.trying.tried_begin.Goals as goal

pub returns : goal.returns
returns g c = tried_begin g.D.Holder.may_leave
