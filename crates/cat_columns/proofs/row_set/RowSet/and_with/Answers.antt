use Rattle.std.proofs.Common.{refl, sym, ◌∙◌, ap, length, ◌≡◌}
use Rattle.cat_model.specs.RowSets.{both}
use Rattle.cat_columns.proofs.Bits.{joined_back, same-long, flags-length}
use Rattle.cat_columns.proofs.row_set.RowSet.and_with.Goals as goal

pub and_blocks-requires : goal.and_blocks-requires
and_blocks-requires c =
    let same : c.other.inside.len ≡ c.self.inside.len = sym (flags-length c.other.inside.len c.other.inside.blocks.items c.args.other.now c.other.view_is)
    ∙ sym c.requires ∙ flags-length c.self.inside.len c.self.inside.blocks.items c.args.self.now c.self.view_is in
    ap length c.deref_mut.ensures.value ∙ same-long _ _ _ _ c.self.invariant c.other.invariant same ∙ sym (ap length c.deref.ensures.value)

pub invariant_of-self : goal.invariant_of-self
invariant_of-self c =
    (joined_back both _ _ _ _ _ _ _ _ _ _ refl c.self.invariant c.other.invariant c.self.view_is c.other.view_is c.requires
    c.deref_mut.ensures.value c.deref.ensures.value c.and_blocks.auto.blocks c.deref_mut.ensures.len c.and_blocks.ensures).0

pub returns : goal.returns
returns c =
    (joined_back both _ _ _ _ _ _ _ _ _ _ refl c.self.invariant c.other.invariant c.self.view_is c.other.view_is c.requires
    c.deref_mut.ensures.value c.deref.ensures.value c.and_blocks.auto.blocks c.deref_mut.ensures.len c.and_blocks.ensures).1
