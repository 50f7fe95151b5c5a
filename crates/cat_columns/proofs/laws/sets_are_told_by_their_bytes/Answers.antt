use Rattle.cat_columns.proofs.Told.{same_bytes, same_sets}
use Rattle.cat_columns.proofs.laws.sets_are_told_by_their_bytes.Goals as goal

pub returns-clause-bytes : goal.returns-clause-bytes
returns-clause-bytes c = same_bytes

pub returns-clause-sets : goal.returns-clause-sets
returns-clause-sets c = same_sets
