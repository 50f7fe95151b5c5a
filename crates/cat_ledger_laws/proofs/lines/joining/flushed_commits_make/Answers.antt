use Rattle.cat_ledger_laws.proofs.lines.JoinedCalls.{flushed_commits_make}
use Rattle.cat_ledger_laws.proofs.lines.joining.flushed_commits_make.Goals as goal

pub returns : goal.returns
returns c = flushed_commits_make
