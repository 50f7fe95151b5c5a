use Rattle.std.proofs.Common.{◌∙◌, Some, ap, sym}
use Rattle.std.specs.Prelude.{◌==◌}
use Rattle.cat_service_tests.proofs.plain.catalogue.Lookups.{find_hit, find_more, other_number, same_number}
use Rattle.cat_service_tests.proofs.plain.recorded.recorded_under.Goals as goal

pub returns-then-token : goal.returns-then-token
returns-then-token c =
    ap Some c.view-item.is
    ∙ find_hit (λ v. v.token == c.args.token) c.args.views.now c.loop-view.view-index c.view-item.result c.loop-view-test.true c.loop-view.invariant
    (same_number _ _ (sym (ap (λ v. v.token) c.view-item.is) ∙ sym c.token.ensures ∙ c.if-token.true))

pub loop-view-preserved : goal.loop-view-preserved
loop-view-preserved c =
    find_more (λ v. v.token == c.args.token) c.args.views.now c.loop-view.view-index c.view-item.result c.loop-view-test.true c.loop-view.invariant
    (other_number _ _ (λ same. c.if-token.false (c.token.ensures ∙ ap (λ v. v.token) c.view-item.is ∙ same)))
