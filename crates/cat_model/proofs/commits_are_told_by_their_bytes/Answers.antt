use Rattle.cat_model.proofs.CommitFiles.{commits_are_told_by_their_bytes}
use Rattle.cat_model.proofs.commits_are_told_by_their_bytes.Goals as goal

pub returns : goal.returns
returns c = commits_are_told_by_their_bytes
