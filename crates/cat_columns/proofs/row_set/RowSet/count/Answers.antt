use Rattle.std.proofs.Common.{◌∙◌}
use Rattle.cat_columns.proofs.Counts.{count_flags}
use Rattle.cat_columns.proofs.row_set.RowSet.count.Goals as goal

pub returns : goal.returns
returns c = c.count_blocks.ensures ∙ count_flags _ _ _ _ c.self.invariant c.self.view_is c.deref.ensures.value
