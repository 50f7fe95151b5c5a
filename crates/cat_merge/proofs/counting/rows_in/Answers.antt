use Rattle.std.proofs.Common.{◌+◌, length, arith, ap, ◌∙◌}
use Rattle.cat_model.specs.View.{Leaf}
use Rattle.cat_merge.proofs.Passed.{row_count_more, inputs_more, front_long}
use Rattle.cat_merge.proofs.counting.rows_in.Goals as goal

pub overflow_add-rows : goal.overflow_add-rows
overflow_add-rows c =
    omega (
      arith,
      row_count_more c.args.inputs.now c.loop-input.input-index c.len-rows.result c.input-item.result c.loop-input-test.true c.input-item.is
          (c.len-rows.ensures.same ∙ ap (λ s. length s.rows) c.segment.ensures),
      front_long (λ (leaf : Leaf). leaf.segment.rows) c.args.inputs.now (c.loop-input.input-index + 1),
    )

pub loop-input-preserved : goal.loop-input-preserved
loop-input-preserved c = record {
  rows = ap (λ n. n + c.len-rows.result) c.loop-input.invariant.rows
      ∙ row_count_more c.args.inputs.now c.loop-input.input-index c.len-rows.result c.input-item.result c.loop-input-test.true c.input-item.is
      (c.len-rows.ensures.same ∙ ap (λ s. length s.rows) c.segment.ensures);
  inputs = inputs_more c.args.inputs.now c.loop-input.input-index c.input-item.result c.segment.result.now c.loop-input-test.true c.input-item.is c.loop-input.invariant.inputs
      c.segment.ensures c.len-rows.ensures.segment c.live-live.ensures.long;
}
