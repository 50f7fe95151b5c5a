use Rattle.std.proofs.Common.{◌≡◌, ◌∙◌, ap, get_or, sym}
use Rattle.cat_model.specs.Query.{matches}
use Rattle.cat_search.specs.cat_query.View.{query_of}
use Rattle.cat_service_tests.proofs.plain.catalogue.Grown.{failed_more, passed_more}
use Rattle.cat_service_tests.proofs.plain.counting.hits_of.Goals as goal
use Rattle.cat_service_tests.proofs.plain.counting.hits_of.Goals.{then-accepts+in_ok-copy+in_ok-push, else-accepts}

pub loop-record-preserved : goal.loop-record-preserved
loop-record-preserved c =
    let q = query_of c.args.query.now in
    let rs = c.args.records.now in
    let i = c.loop-record.record-index in
    let d = c.record-item.result in
    let told : c.accepts.result ≡ matches q (get_or rs i d).item = c.accepts.ensures ∙ ap (matches q) c.item.ensures ∙ ap (λ r. matches q r.item) c.record-item.is in
    elim c.if-accepts.branch [
      | then-accepts+in_ok-copy+in_ok-push w ↦ rw w.found-is (passed_more rs i d c.loop-record-test.true (λ r. matches q r.item) c.loop-record.found.items c.loop-record.invariant _ _ w.in_ok-push.ensures.items (w.in_ok-copy.ensures.ok ∙ c.record-item.is) (sym told ∙ w.if-accepts.true))
      | else-accepts w ↦ rw w.found-is (failed_more rs i d c.loop-record-test.true (λ r. matches q r.item) c.loop-record.found.items c.loop-record.invariant (sym told ∙ w.if-accepts.false))
    ]
