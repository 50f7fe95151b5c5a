use Rattle.std.proofs.Common.{◌∙◌}
use Rattle.cat_columns.proofs.Scans.{rows_from-start}
use Rattle.cat_columns.proofs.row_set.RowSet.iter.Goals as goal

pub returns : goal.returns
returns c = c.of.ensures ∙ rows_from-start _ _ _ _ c.self.invariant c.self.view_is c.deref.ensures.value
