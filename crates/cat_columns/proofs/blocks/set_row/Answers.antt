use Rattle.cat_columns.proofs.Bits.{row_set}
use Rattle.cat_columns.proofs.blocks.set_row.Goals as goal

pub returns : goal.returns
returns c = row_set c.args.blocks.now c.args.row c.requires
