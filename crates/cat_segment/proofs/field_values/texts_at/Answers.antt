use Rattle.cat_base.proofs.TextSets.{IsTextSet-nil}
use Rattle.cat_segment.proofs.field_values.texts_at.Goals as goal

pub returns-in_default-clause-sorted : goal.returns-in_default-clause-sorted
returns-in_default-clause-sorted c = IsTextSet-nil
