use Rattle.cat_columns.proofs.Below.{below_back, below_fits}
use Rattle.cat_columns.proofs.row_set.RowSet.remove_below.Goals as goal

pub clear_below-requires : goal.clear_below-requires
clear_below-requires c = below_fits _ _ _ _ _ c.self.invariant c.self.view_is c.deref_mut.ensures.value c.requires

pub invariant_of-self : goal.invariant_of-self
invariant_of-self c =
    (below_back _ _ _ _ _ _ _ c.self.invariant c.self.view_is c.requires c.deref_mut.ensures.value c.clear_below.auto.blocks c.deref_mut.ensures.len c.clear_below.ensures).0

pub returns : goal.returns
returns c =
    (below_back _ _ _ _ _ _ _ c.self.invariant c.self.view_is c.requires c.deref_mut.ensures.value c.clear_below.auto.blocks c.deref_mut.ensures.len c.clear_below.ensures).1
