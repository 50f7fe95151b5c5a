use Rattle.cat_ledger_laws.proofs.model.Runs.{calls_keep_runs}
use Rattle.cat_ledger_laws.proofs.model.calls_keep_runs.Goals as goal

pub returns : goal.returns
returns c = calls_keep_runs
