use Rattle.cat_columns.proofs.Told.{same_keywords, same_labels}
use Rattle.cat_columns.proofs.laws.columns_are_told_by_their_layouts.Goals as goal

pub returns-clause-keywords : goal.returns-clause-keywords
returns-clause-keywords c = same_keywords

pub returns-clause-labels : goal.returns-clause-labels
returns-clause-labels c = same_labels
