use Rattle.cat_columns.proofs.inverted.Told.{told}
use Rattle.cat_columns.proofs.inverted.posted.terms_are_told_by_their_postings.Goals as goal

pub returns : goal.returns
returns c = told
