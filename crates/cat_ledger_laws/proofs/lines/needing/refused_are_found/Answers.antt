use Rattle.cat_ledger_laws.proofs.lines.Refused.{refused_are_found}
use Rattle.cat_ledger_laws.proofs.lines.needing.refused_are_found.Goals as goal

pub returns : goal.returns
returns g c = refused_are_found g.D.Holder.may_leave
