use Rattle.std.proofs.Common.{◌∙◌}
use Rattle.cat_columns.specs.Columns.{is_between}
use Rattle.cat_columns.proofs.Packs.{rows_of_tests}
use Rattle.cat_columns.proofs.numbers.rows_between.Goals as goal

pub from_blocks-requires : goal.from_blocks-requires
from_blocks-requires c = (rows_of_tests (is_between c.args.low c.args.high) c.args.values.now c.in_ok-blocks.blocks.items c.requires c.in_ok-blocks.ensures.long c.in_ok-blocks.ensures.bits).0

pub returns : goal.returns
returns c = record {
  ok = (c.from_blocks.ensures ∙ (rows_of_tests (is_between c.args.low c.args.high) c.args.values.now c.in_ok-blocks.blocks.items c.requires c.in_ok-blocks.ensures.long c.in_ok-blocks.ensures.bits).1);
}
