use Rattle.cat_ledger_laws.proofs.lines.TriedFound.{tried_tables_are_found}
use Rattle.cat_ledger_laws.proofs.lines.needing.tried_tables_are_found.Goals as goal

pub returns : goal.returns
returns g c = tried_tables_are_found g.D.Holder.may_leave
