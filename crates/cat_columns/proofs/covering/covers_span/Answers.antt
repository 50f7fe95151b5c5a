use Rattle.std.proofs.Common.{arith}
use Rattle.cat_columns.proofs.Marks.{none_set, all_there, all_set}
use Rattle.cat_columns.proofs.covering.covers_span.Goals as goal

pub mark_all-requires-clause-clear : goal.mark_all-requires-clause-clear
mark_all-requires-clause-clear c = λ k. none_set 1024 k

pub returns : goal.returns
returns c = (
  λ e. all_there _ c.args.numbers.now c.args.from c.args.count (λ k lt. c.mark_all.ensures k (omega arith)) (c.are_set.ensures.0 e),
  λ there. c.are_set.ensures.1 (all_set _ c.args.numbers.now c.args.from c.args.count (λ k lt. c.mark_all.ensures k (omega arith)) there),
)
