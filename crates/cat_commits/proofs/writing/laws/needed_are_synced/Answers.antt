use Rattle.cat_commits.proofs.writing.Needed.{needed_synced}
use Rattle.cat_commits.proofs.writing.laws.needed_are_synced.Goals as goal

pub returns : goal.returns
returns c = needed_synced
