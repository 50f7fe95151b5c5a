use Rattle.std.proofs.Common.{refl, sym, arith}
use Rattle.std.specs.Prelude.{bit_or}
use Rattle.cat_model.specs.RowSets.{either}
use Rattle.cat_columns.proofs.Bits.{is_set_joined, has_bit-or}
use Rattle.cat_columns.proofs.blocks.or_blocks.Goals as goal

pub returns : goal.returns
returns c =
    is_set_joined either bit_or c.args.blocks.now c.loop-k.blocks c.args.others.now refl (λ a b i lt fits. has_bit-or a b i) c.loop-k.auto.blocks (sym c.requires)
    (λ k. (c.type_inv.others k).fits) (λ k lt. c.loop-k.invariant.done k (omega arith))
