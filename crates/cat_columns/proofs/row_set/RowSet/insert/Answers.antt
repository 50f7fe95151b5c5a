use Rattle.std.proofs.Common.{true}
use Rattle.cat_columns.proofs.Bits.{write_back, row_fits}
use Rattle.cat_columns.proofs.row_set.RowSet.insert.Goals as goal

pub set_row-requires : goal.set_row-requires
set_row-requires c = row_fits _ _ _ _ _ c.self.invariant c.self.view_is c.deref_mut.ensures.value c.requires

pub invariant_of-self : goal.invariant_of-self
invariant_of-self c =
    (write_back _ _ _ _ _ _ _ true c.self.invariant c.self.view_is c.requires c.deref_mut.ensures.value c.set_row.auto.blocks c.deref_mut.ensures.len c.set_row.ensures).0

pub returns : goal.returns
returns c =
    (write_back _ _ _ _ _ _ _ true c.self.invariant c.self.view_is c.requires c.deref_mut.ensures.value c.set_row.auto.blocks c.deref_mut.ensures.len c.set_row.ensures).1
