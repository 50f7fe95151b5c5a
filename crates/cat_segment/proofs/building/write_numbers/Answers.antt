use Rattle.std.proofs.Common.{◌<◌, ◌^◌, refl, arith}
use Rattle.cat_segment.proofs.Steps.{made_more, made_all, holds_more, holds_all}
use Rattle.cat_segment.proofs.building.write_numbers.Goals as goal

pub loop-row-preserved : goal.loop-row-preserved
loop-row-preserved c =
    let rows = c.args.rows.now in
    let i = c.loop-row.row-index in
    record {
      same = made_more rows i c.row-item.result c.loop-row-test.true c.row-item.is (λ r. r.number) c.loop-row.numbers.items _ _ c.in_ok-push.ensures.items refl c.loop-row.invariant.same;
      fit = holds_more rows i c.row-item.result c.loop-row-test.true c.row-item.is (λ r. r.number < 2 ^ 64) c.loop-row.invariant.fit (omega arith);
    }

pub loop-row-init : goal.loop-row-init
loop-row-init c = record {
  same = c.in_ok-numbers.ensures.items;
  fit = λ k d within. absurd (omega (arith, within));
}

pub returns-clause-ok : goal.returns-clause-ok
returns-clause-ok c = made_all c.args.rows.now c.loop-row.row-index c.loop-row-test.false (λ r. r.number) c.loop-row.numbers.items c.loop-row.invariant.same

pub returns-clause-fit : goal.returns-clause-fit
returns-clause-fit c = holds_all c.args.rows.now c.loop-row.row-index c.loop-row-test.false (λ r. r.number < 2 ^ 64) c.loop-row.invariant.fit
