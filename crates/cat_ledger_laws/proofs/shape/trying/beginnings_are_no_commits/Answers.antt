use Rattle.cat_ledger_laws.proofs.shape.Beginnings.{beginnings_are_no_commits}
use Rattle.cat_ledger_laws.proofs.shape.trying.beginnings_are_no_commits.Goals as goal

pub returns : goal.returns
returns c = beginnings_are_no_commits
