use Rattle.cat_ledger_laws.proofs.model.Written.{commits_need_their_names}
use Rattle.cat_ledger_laws.proofs.model.commits_need_their_names.Goals as goal

pub returns : goal.returns
returns c = commits_need_their_names
