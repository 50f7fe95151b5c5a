use Rattle.std.proofs.Common.{arith}
use Rattle.cat_columns.proofs.Cuts.{rows_ends}
use Rattle.cat_columns.proofs.sets.SetColumn.len.Goals as goal

pub returns-clause-value : goal.returns-clause-value
returns-clause-value c = omega (arith, c.len.ensures, rows_ends _ _ _ c.args.self.now c.self.invariant c.self.view_is)

pub returns-clause-few : goal.returns-clause-few
returns-clause-few c = omega (arith, c.self.invariant.few, rows_ends _ _ _ c.args.self.now c.self.invariant c.self.view_is)
