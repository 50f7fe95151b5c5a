use Rattle.std.proofs.Common.{◌≡◌, ◌∙◌, true}
use Rattle.cat_model.specs.Item.{is_id}
use Rattle.cat_segment.proofs.Steps.{made_more, made_all, holds_more, holds_all}
use Rattle.cat_segment.proofs.building.copied_ids.Goals as goal

pub loop-row-preserved : goal.loop-row-preserved
loop-row-preserved c =
    let rows = c.args.rows.now in
    let i = c.loop-row.row-index in
    record {
      same = made_more rows i c.row-item.result c.loop-row-test.true c.row-item.is (λ r. r.item.now.id) c.loop-row.ids.items _ _ c.in_ok-push.ensures.items (c.in_ok-from_str.ensures.ok ∙ c.id.ensures.value) c.loop-row.invariant.same;
      forms = holds_more rows i c.row-item.result c.loop-row-test.true c.row-item.is (λ r. is_id r.item.now.id ≡ true) c.loop-row.invariant.forms c.id.ensures.form;
    }

pub returns-clause-ok : goal.returns-clause-ok
returns-clause-ok c = made_all c.args.rows.now c.loop-row.row-index c.loop-row-test.false (λ r. r.item.now.id) c.loop-row.ids.items c.loop-row.invariant.same

pub returns-clause-forms : goal.returns-clause-forms
returns-clause-forms c = holds_all c.args.rows.now c.loop-row.row-index c.loop-row-test.false (λ r. is_id r.item.now.id ≡ true) c.loop-row.invariant.forms
