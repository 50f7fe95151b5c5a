use Rattle.cat_columns.proofs.Bits.{bits-empty}
use Rattle.cat_columns.proofs.row_set.RowSet.none.Goals as goal

pub returns : goal.returns
returns c = record {
  ok = ((bits-empty c.args.len c.requires _ (c.in_ok-blocks.ensures.items_if_clones_equal (λ y h. h))).1);
}
