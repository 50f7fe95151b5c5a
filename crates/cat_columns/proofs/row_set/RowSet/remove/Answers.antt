use Rattle.std.proofs.Common.{false}
use Rattle.cat_columns.proofs.Bits.{write_back, row_fits}
use Rattle.cat_columns.proofs.row_set.RowSet.remove.Goals as goal

pub clear_row-requires : goal.clear_row-requires
clear_row-requires c = row_fits _ _ _ _ _ c.self.invariant c.self.view_is c.deref_mut.ensures.value c.requires

pub invariant_of-self : goal.invariant_of-self
invariant_of-self c =
    (write_back _ _ _ _ _ _ _ false c.self.invariant c.self.view_is c.requires c.deref_mut.ensures.value c.clear_row.auto.blocks c.deref_mut.ensures.len c.clear_row.ensures).0

pub returns : goal.returns
returns c =
    (write_back _ _ _ _ _ _ _ false c.self.invariant c.self.view_is c.requires c.deref_mut.ensures.value c.clear_row.auto.blocks c.deref_mut.ensures.len c.clear_row.ensures).1
