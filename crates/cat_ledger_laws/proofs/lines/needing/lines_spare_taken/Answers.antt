use Rattle.cat_ledger_laws.proofs.lines.Spared.{lines_spare_taken}
use Rattle.cat_ledger_laws.proofs.lines.needing.lines_spare_taken.Goals as goal

pub returns : goal.returns
returns g c = lines_spare_taken g.D.Holder.may_leave
