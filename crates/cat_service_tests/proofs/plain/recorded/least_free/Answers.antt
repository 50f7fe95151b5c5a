use Rattle.std.proofs.Common.{◌≡◌, ◌∙◌, ap, sym, get_or}
use Rattle.cat_model.specs.State.{held_in}
use Rattle.cat_service_tests.proofs.plain.catalogue.Tokens.{IsLeastFree_more-held, IsLeastFree_more-free}
use Rattle.cat_service_tests.proofs.plain.recorded.least_free.Goals as goal
use Rattle.cat_service_tests.proofs.plain.recorded.least_free.Goals.{then-not-is_held, else-not-is_held}

pub loop-view-preserved : goal.loop-view-preserved
loop-view-preserved c =
    let token : c.token-token.result ≡ (get_or c.args.views.now c.loop-view.view-index c.view-item.result).token = c.token-token.ensures ∙ ap (λ v. v.token) c.view-item.is in
    let held : c.is_held.result ≡ held_in c.args.holds.now (get_or c.args.views.now c.loop-view.view-index c.view-item.result).token = c.is_held.ensures ∙ ap (held_in c.args.holds.now) token in
    elim c.if-not-is_held.branch [
      | then-not-is_held w ↦ rw (w.least-is, w.lesser-least.ensures, token) (IsLeastFree_more-free (held_in c.args.holds.now) c.args.views.now c.loop-view.view-index c.view-item.result c.loop-view-test.true c.loop-view.least c.loop-view.invariant (sym held ∙ w.if-not-is_held.true))
      | else-not-is_held w ↦ rw w.least-is (IsLeastFree_more-held (held_in c.args.holds.now) c.args.views.now c.loop-view.view-index c.view-item.result c.loop-view-test.true c.loop-view.least c.loop-view.invariant (sym held ∙ w.if-not-is_held.false))
    ]
