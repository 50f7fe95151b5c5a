use Rattle.std.proofs.Common.{length, sum, ap, arith}
use Rattle.std.proofs.lemmas.Grind.{elements}
use Rattle.cat_model.specs.Forms.{IsSourceLength}
use Rattle.cat_segment.proofs.Steps.{made_more, holds_more, sum_fits}
use Rattle.cat_segment.proofs.building.sources.Goals as goal

pub push-requires : goal.push-requires
push-requires c =
    omega (
      arith,
      sum_fits (λ r. length r.item.now.source) c.args.rows.now c.loop-row.row-index (length c.row-item.result.item.now.source) c.loop-row-test.true c.requires
          (λ k d lt. (c.loop-row.invariant.sizes k d lt).1) c.source.ensures.size.1,
      ap sum c.loop-row.invariant.same,
      ap length c.source.ensures.value,
    )

pub loop-row-preserved : goal.loop-row-preserved
loop-row-preserved c =
    let rows = c.args.rows.now in
    let i = c.loop-row.row-index in
    record {
      same = made_more rows i c.row-item.result c.loop-row-test.true c.row-item.is (λ r. length r.item.now.source) c.loop-row.sources _ _ c.in_ok-push.ensures.ok (ap length c.source.ensures.value) c.loop-row.invariant.same;
      sizes = holds_more rows i c.row-item.result c.loop-row-test.true c.row-item.is (λ r. IsSourceLength (length r.item.now.source)) c.loop-row.invariant.sizes c.source.ensures.size;
    }

pub returns-clause-ok : goal.returns-clause-ok
returns-clause-ok c = grind (arith, elements)

pub returns-clause-sizes : goal.returns-clause-sizes
returns-clause-sizes c = grind (arith, elements)
