use Rattle.cat_columns.proofs.Bits.{all_back, rows_fit}
use Rattle.cat_columns.proofs.row_set.RowSet.insert_all.Goals as goal

pub set_rows-requires : goal.set_rows-requires
set_rows-requires c = rows_fit _ _ _ _ _ c.self.invariant c.self.view_is c.deref_mut.ensures.value c.requires

pub invariant_of-self : goal.invariant_of-self
invariant_of-self c =
    (all_back _ _ _ _ _ _ _ c.self.invariant c.self.view_is c.requires c.deref_mut.ensures.value c.set_rows.auto.blocks c.deref_mut.ensures.len c.set_rows.ensures).0

pub returns : goal.returns
returns c =
    (all_back _ _ _ _ _ _ _ c.self.invariant c.self.view_is c.requires c.deref_mut.ensures.value c.set_rows.auto.blocks c.deref_mut.ensures.len c.set_rows.ensures).1
