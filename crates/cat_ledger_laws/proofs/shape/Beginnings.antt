-- The beginning of a commit's file is no commit's file, but the whole.
use Rattle.cat_model.proofs.CommitFiles.{beginnings_are_whole}
use Rattle.cat_ledger_laws.specs.shape.Tried.{BeginningsAreNoCommits}

pub beginnings_are_no_commits : BeginningsAreNoCommits
beginnings_are_no_commits = beginnings_are_whole
