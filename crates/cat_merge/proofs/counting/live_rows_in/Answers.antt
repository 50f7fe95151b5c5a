use Rattle.std.proofs.Common.{◌+◌, arith, ap, ◌∙◌}
use Rattle.cat_model.specs.View.{live_rows}
use Rattle.cat_merge.proofs.Passed.{live_count_more, front_long}
use Rattle.cat_merge.proofs.counting.live_rows_in.Goals as goal

pub overflow_add-rows : goal.overflow_add-rows
overflow_add-rows c =
    omega (
      arith,
      live_count_more c.args.inputs.now c.loop-input.input-index c.count-rows.result c.input-item.result c.live.result.now c.loop-input-test.true c.input-item.is
          c.live.ensures.value c.live.ensures.long c.count-rows.ensures,
      front_long live_rows c.args.inputs.now (c.loop-input.input-index + 1),
    )

pub loop-input-preserved : goal.loop-input-preserved
loop-input-preserved c =
    ap (λ n. n + c.count-rows.result) c.loop-input.invariant
    ∙ live_count_more c.args.inputs.now c.loop-input.input-index c.count-rows.result c.input-item.result c.live.result.now c.loop-input-test.true c.input-item.is
    c.live.ensures.value c.live.ensures.long c.count-rows.ensures
