use Rattle.std.proofs.Common.{inl, inr, arith}
use Rattle.std.proofs.lemmas.Bool.{cases_lt}
use Rattle.cat_columns.proofs.covering.covers.Goals as goal

pub loop-next-preserved : goal.loop-next-preserved
loop-next-preserved c = record {
  after = omega arith;
  there = λ n low lt. elim (cases_lt n c.loop-next.next) [
    | inl before ↦ c.loop-next.invariant.there n low before
    | inr past ↦ c.covers_span.ensures.0 c.if-not-covers_span.false n past (omega arith)
  ];
}
