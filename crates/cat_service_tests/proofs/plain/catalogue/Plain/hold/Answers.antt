use Rattle.std.proofs.Common.{◌≡◌, ◌∙◌, [], ap, false, subst, sym, true}
use Rattle.cat_model.specs.State.{State, has_hold, has_view, with_hold}
use Rattle.cat_service_tests.proofs.plain.catalogue.Changes.{held_already, held_so}
use Rattle.cat_service_tests.proofs.plain.catalogue.Sound.{sound_opened}
use Rattle.cat_service_tests.proofs.plain.catalogue.Plain.hold.Goals as goal

pub invariant_of-self : goal.invariant_of-self
invariant_of-self c =
    let has : has_view c.self.inside.views.items c.args.token ≡ true = ap (λ w. has_view w.state.views c.args.token) c.self.view_is ∙ c.requires in
    (rw c.in_ok-push.ensures.items (sound_opened _ _ c.args.session c.args.token has c.self.invariant.0), c.self.invariant.1, c.self.invariant.2, c.self.invariant.3)

pub invariant_of-self-in_err-push : goal.invariant_of-self-in_err-push
invariant_of-self-in_err-push c = rw c.in_err-push.ensures.items c.self.invariant

pub returns-in_ok-push-clause-ok : goal.returns-in_ok-push-clause-ok
returns-in_ok-push-clause-ok c =
    let s = c.args.session in
    let t = c.args.token in
    let st : State = record { table = c.self.inside.table.items; count = c.self.inside.count; views = c.self.inside.views.items; holds = c.self.inside.holds.items; commits = []; taken = [] } in
    let free : has_hold c.self.inside.holds.items s t ≡ false = ap (λ w. has_hold w.state.holds s t) c.self.view_is ∙ sym c.is_holding.ensures ∙ c.if-not-is_holding.true in
    subst (λ w. record st { holds = c.push.new.self.items } ≡ with_hold w.state s t) c.self.view_is (held_so st s t c.push.new.self.items free c.in_ok-push.ensures.items)

pub returns-else-not-is_holding-clause-ok : goal.returns-else-not-is_holding-clause-ok
returns-else-not-is_holding-clause-ok c = held_already c.args.self.now.state c.args.session c.args.token (sym c.is_holding.ensures ∙ c.if-not-is_holding.false)
