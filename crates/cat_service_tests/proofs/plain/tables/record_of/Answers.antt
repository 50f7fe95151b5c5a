use Rattle.std.proofs.Common.{◌∙◌, Some, ap, sym}
use Rattle.cat_model.specs.Text.{same_text}
use Rattle.cat_service_tests.proofs.plain.catalogue.Lookups.{find_hit, find_more}
use Rattle.cat_service_tests.proofs.plain.tables.record_of.Goals as goal

pub returns-then-eq : goal.returns-then-eq
returns-then-eq c =
    let id = c.args.id.now in
    let told = c.eq.ensures ∙ ap (λ t. same_text t id) (c.id.ensures.value ∙ ap (λ item. item.id) c.item.ensures) ∙ ap (λ r. same_text r.item.id id) c.record-item.is in
    ap Some c.record-item.is
    ∙ find_hit (λ r. same_text r.item.id id) c.args.records.now c.loop-record.record-index c.record-item.result c.loop-record-test.true c.loop-record.invariant (sym told ∙ c.if-eq.true)

pub loop-record-preserved : goal.loop-record-preserved
loop-record-preserved c =
    let id = c.args.id.now in
    let told = c.eq.ensures ∙ ap (λ t. same_text t id) (c.id.ensures.value ∙ ap (λ item. item.id) c.item.ensures) ∙ ap (λ r. same_text r.item.id id) c.record-item.is in
    find_more (λ r. same_text r.item.id id) c.args.records.now c.loop-record.record-index c.record-item.result c.loop-record-test.true c.loop-record.invariant (sym told ∙ c.if-eq.false)
