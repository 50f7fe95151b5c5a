use Rattle.std.proofs.Common.{length, get_or, None}
use Rattle.std.specs.Prelude.{is_some}
use Rattle.cat_columns.proofs.Fills.{Filled}
use Rattle.cat_columns.proofs.numbers.rows_with_number.Given as goal

abbrev pub invariant-loop-row : goal.invariant-loop-row
invariant-loop-row l = Filled (λ k. is_some (get_or l.values k None)) (length l.values) l.row l.set
