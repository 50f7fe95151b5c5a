use Rattle.std.proofs.Common.{sym, arith}
use Rattle.cat_columns.proofs.Bits.{flags-length}
use Rattle.cat_columns.proofs.row_set.RowSet.len.Goals as goal

pub returns-clause-value : goal.returns-clause-value
returns-clause-value c = sym (flags-length c.self.inside.len c.self.inside.blocks.items c.args.self.now c.self.view_is)

pub returns-clause-few : goal.returns-clause-few
returns-clause-few c = omega (arith, c.self.invariant.few, flags-length c.self.inside.len c.self.inside.blocks.items c.args.self.now c.self.view_is)
