use Rattle.cat_commits.proofs.writing.Begun.{drafts_write}
use Rattle.cat_commits.proofs.writing.laws.drafts_write_commits.Goals as goal

pub returns : goal.returns
returns c = drafts_write
