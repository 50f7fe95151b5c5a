use Rattle.std.proofs.Common.{ap, length}
use Rattle.cat_columns.specs.Bits.{is_set}
use Rattle.cat_columns.proofs.Same.{blocks_same}
use Rattle.cat_columns.proofs.blocks.same_blocks.Goals as goal

pub returns : goal.returns
returns c = (
  λ t. let same = c.are_equal.ensures.0 t in (ap length same, λ row. ap (λ l. is_set l row) same),
  λ same. c.are_equal.ensures.1
      (blocks_same c.args.blocks.now c.args.other.now (λ k. (c.type_inv.blocks k).fits) (λ k. (c.type_inv.other k).fits) same.0 same.1),
)
