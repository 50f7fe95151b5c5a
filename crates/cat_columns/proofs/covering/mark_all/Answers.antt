use Rattle.std.proofs.Common.{refl, ◌∙◌, arith}
use Rattle.std.proofs.lemmas.Grind.{elements}
use Rattle.cat_columns.specs.Bits.{is_set}
use Rattle.cat_columns.proofs.Marks.{marked_more}
use Rattle.cat_columns.proofs.covering.mark_all.Goals as goal

pub loop-number-preserved : goal.loop-number-preserved
loop-number-preserved c = record {
  long = c.mark.auto.blocks ∙ c.loop-number.invariant.long;
  marked = λ k lt. marked_more c.args.from k c.loop-number.number-index _ c.args.numbers.now (is_set c.loop-number.blocks k) _ c.loop-number-test.true refl (c.mark.ensures k (omega (arith, lt, c.loop-number.invariant.long))) (c.loop-number.invariant.marked k lt);
}

pub returns : goal.returns
returns c = grind (arith, elements)
