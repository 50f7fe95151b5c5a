use Rattle.cat_columns.proofs.Bits.{row_cleared}
use Rattle.cat_columns.proofs.blocks.clear_row.Goals as goal

pub returns : goal.returns
returns c = row_cleared c.args.blocks.now c.args.row c.requires
