use Rattle.cat_columns.proofs.Bytes.{byte_of_blocks}
use Rattle.cat_columns.proofs.packed.byte_at.Goals as goal

pub returns : goal.returns
returns c = λ i lt. byte_of_blocks c.args.blocks.now c.args.index i lt
