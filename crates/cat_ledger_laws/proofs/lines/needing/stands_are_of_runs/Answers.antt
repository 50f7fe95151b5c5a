use Rattle.cat_ledger_laws.proofs.lines.Spared.{stands_are_of_runs}
use Rattle.cat_ledger_laws.proofs.lines.needing.stands_are_of_runs.Goals as goal

pub returns : goal.returns
returns c = stands_are_of_runs
