use Rattle.std.proofs.Common.{◌≡◌, ◌∙◌, List, [], ◌∷◌, ◌++◌, Some, None, cond, ap, sym, subst, arith}
use Rattle.std.specs.Map.{lookup, values_of}
use Rattle.std.proofs.lemmas.Grind.{common_steps}
use Rattle.cat_model.specs.State as state
use Rattle.cat_views.specs.Holds.{HeldView}
use Rattle.cat_lifetimes.specs.rights.Rights.{AreRightsKeyed, hold_of_right, right_of}
use Rattle.cat_lifetimes.proofs.rights.Entries.{found_last, is_own, key, keyed-front, same_as, shown, values-push}
use Rattle.cat_lifetimes.proofs.rights.rights.Rights.pop.Goals as goal

pub invariant_of-self-2 : goal.invariant_of-self-2
invariant_of-self-2 c =
    (keyed-front c.pop.new.self.entries c.in_ok-hold.field-0-0 c.in_ok-hold.hold
    (subst (λ (fs : List (state.Hold × HeldView)). AreRightsKeyed fs) c.in_ok-hold.ensures.entries c.self.invariant)).0

pub returns-clause-found : goal.returns-clause-found
returns-clause-found c =
    let fs : List (state.Hold × HeldView) = c.pop.new.self.entries in
    let h = c.in_ok-hold.hold in
    let k = c.in_ok-hold.field-0-0 in
    let front = keyed-front fs k h (subst (λ (es : List (state.Hold × HeldView)). AreRightsKeyed es) c.in_ok-hold.ensures.entries c.self.invariant) in
    let gone : right_of (values_of fs) h.session h.view.token ≡ None = sym (shown fs front.0 h.session h.view.token) ∙ ap (λ (l : state.Hold). lookup (same_as l) fs) (sym front.1) ∙ c.in_ok-hold.ensures.updates.1 in
    let was : c.args.self.now ≡ values_of fs ++ h ∷ [] = sym c.self.view_is ∙ ap (λ (es : List (state.Hold × HeldView)). values_of es) c.in_ok-hold.ensures.entries ∙ values-push fs k h in
    ap (λ (rs : List HeldView). right_of rs h.session h.view.token) was
    ∙ found_last (values_of fs) h gone h.session h.view.token
    ∙ ap (λ b. cond b (Some h) (right_of (values_of fs) h.session h.view.token)) (is_own h)

pub returns-clause-others : goal.returns-clause-others
returns-clause-others c =
    let es : List (state.Hold × HeldView) = c.self.inside.holds.entries in
    let fs : List (state.Hold × HeldView) = c.pop.new.self.entries in
    let h = c.in_ok-hold.hold in
    let k = c.in_ok-hold.field-0-0 in
    let front = keyed-front fs k h (subst (λ (es : List (state.Hold × HeldView)). AreRightsKeyed es) c.in_ok-hold.ensures.entries c.self.invariant) in
    λ u v. sym (shown fs front.0 u v)
    ∙ c.in_ok-hold.ensures.updates.0 (key u v)
    ∙ ap (λ (l : state.Hold). cond (same_as l (key u v)) None (lookup (same_as (key u v)) es)) front.1
    ∙ ap (λ r. cond (same_as (hold_of_right h) (key u v)) None r) (shown es c.self.invariant u v)
    ∙ ap (λ (rs : List HeldView). cond (same_as (hold_of_right h) (key u v)) None (right_of rs u v)) c.self.view_is

pub returns-clause-some : goal.returns-clause-some
returns-clause-some c = grind (arith, common_steps)
