use Rattle.cat_columns.proofs.Bits.{bits-full}
use Rattle.cat_columns.proofs.row_set.RowSet.all.Goals as goal

pub returns : goal.returns
returns c = record {
  ok = ((bits-full c.args.len c.requires _ c.in_ok-blocks.ensures.ok.0 c.in_ok-blocks.ensures.ok.1).1);
}
