use Rattle.cat_model.proofs.QueryLaws.{queries_are_read}
use Rattle.cat_model.proofs.queries_are_read.Goals as goal

pub returns : goal.returns
returns c = queries_are_read
