use Rattle.std.proofs.Common.{refl, sym, arith}
use Rattle.std.specs.Prelude.{bit_and}
use Rattle.cat_model.specs.RowSets.{both}
use Rattle.cat_columns.proofs.Bits.{is_set_joined, has_bit-and}
use Rattle.cat_columns.proofs.blocks.and_blocks.Goals as goal

pub returns : goal.returns
returns c =
    is_set_joined both bit_and c.args.blocks.now c.loop-k.blocks c.args.others.now refl (λ a b i lt fits. has_bit-and a b i) c.loop-k.auto.blocks (sym c.requires)
    (λ k. (c.type_inv.others k).fits) (λ k lt. c.loop-k.invariant.done k (omega arith))
