use Rattle.std.proofs.Common.{◌∙◌, refl}
use Rattle.cat_columns.proofs.Bits.{set_more}
use Rattle.cat_columns.proofs.blocks.set_rows.Goals as goal

pub loop-row-preserved : goal.loop-row-preserved
loop-row-preserved c = record {
  long = c.set_row.auto.blocks ∙ c.loop-row.invariant.long;
  done = set_more c.args.rows.now c.loop-row.row-index _ _ _ _ c.loop-row-test.true refl c.loop-row.invariant.done c.set_row.ensures;
}
