use Rattle.std.proofs.Common.{[], refl}
use Rattle.cat_model.specs.Item.{number_in}
use Rattle.cat_segment.specs.Fields.{content_in, IsFormedIn}
use Rattle.cat_segment.proofs.Steps.{made_more, made_all, holds_more, holds_all, holds_none}
use Rattle.cat_segment.proofs.field_values.numbers.Goals as goal

pub loop-row-preserved : goal.loop-row-preserved
loop-row-preserved c =
    let rows = c.args.rows.now in
    let i = c.loop-row.row-index in
    record {
      same = made_more rows i c.row-item.result c.loop-row-test.true c.row-item.is (λ r. number_in (content_in c.args.index r.item.now)) c.loop-row.numbers.items _ _ c.in_ok-push.ensures.items c.number_at.ensures.value c.loop-row.invariant.same;
      formed = holds_more rows i c.row-item.result c.loop-row-test.true c.row-item.is (IsFormedIn c.args.index) c.loop-row.invariant.formed c.number_at.ensures.formed;
    }

pub loop-row-init : goal.loop-row-init
loop-row-init c = record {
  same = c.in_ok-numbers.ensures.items;
  formed = holds_none (IsFormedIn c.args.index) [] refl;
}

pub returns-clause-ok : goal.returns-clause-ok
returns-clause-ok c = made_all c.args.rows.now c.loop-row.row-index c.loop-row-test.false (λ r. number_in (content_in c.args.index r.item.now)) c.loop-row.numbers.items c.loop-row.invariant.same

pub returns-clause-formed : goal.returns-clause-formed
returns-clause-formed c = holds_all c.args.rows.now c.loop-row.row-index c.loop-row-test.false (IsFormedIn c.args.index) c.loop-row.invariant.formed
