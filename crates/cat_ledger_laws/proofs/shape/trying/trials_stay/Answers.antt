use Rattle.cat_ledger_laws.proofs.shape.Trials.{trials_stay}
use Rattle.cat_ledger_laws.proofs.shape.trying.trials_stay.Goals as goal

pub returns : goal.returns
returns g c = trials_stay g.D.Holder.may_leave
