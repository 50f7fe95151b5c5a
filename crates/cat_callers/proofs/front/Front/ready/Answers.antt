use Rattle.std.proofs.Common.{◌≡◌, ◌∙◌, subst}
use Rattle.std.specs.Prelude.{IfOk, Result}
use Rattle.cat_base.specs.declared.refusal.Refusal.{Refusal}
use Rattle.cat_threads.specs.cat_commands.cat_protocol.cat_search.Views.{Prepared}
use Rattle.cat_threads.specs.sharing.ShareLaws.{IsOfGroundList}
use Rattle.cat_callers.proofs.Held.{shown_before}
use Rattle.cat_callers.proofs.front.Front.ready.Goals as goal

pub returns-in-Ok-Ok-clause-shown : goal.returns-in-Ok-Ok-clause-shown
returns-in-Ok-Ok-clause-shown g c =
    let from = g.J.Naming.from in
    let seen = c.prepare_if_free.new.me in
    let shown = subst (λ (r : Result Prepared Refusal). IfOk r (λ p. (p.view.token ≡ c.token.result) × IsOfGroundList from seen.list p.view))
    c.in-Ok-Ok.field-0-is c.in-Ok-Ok.ensures.shown in
    shown_before from c.args.me.now seen c.args.hold.now.view.token c.args.hold.now c.in-Ok-Ok.prepared.view c.prepare_if_free.ensures.seen c.requires
    (shown.0 ∙ c.token.ensures) shown.1
