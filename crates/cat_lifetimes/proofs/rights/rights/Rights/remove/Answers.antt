use Rattle.std.proofs.Common.{◌∙◌, List, None, cond, ap, sym, subst, arith}
use Rattle.std.specs.Map.{lookup}
use Rattle.std.proofs.lemmas.Grind.{elements}
use Rattle.cat_model.specs.State as state
use Rattle.cat_views.specs.Holds.{HeldView}
use Rattle.cat_lifetimes.specs.rights.Rights.{AreRightsKeyed, right_of}
use Rattle.cat_lifetimes.proofs.rights.Entries.{key, keyed-removed, same_as, shown}
use Rattle.cat_lifetimes.proofs.rights.rights.Rights.remove.Goals as goal

pub invariant_of-self : goal.invariant_of-self
invariant_of-self c =
    let es : List (state.Hold × HeldView) = c.self.inside.holds.entries in
    subst (λ (fs : List (state.Hold × HeldView)). AreRightsKeyed fs) (sym c.swap_remove.ensures.entries) (keyed-removed (same_as c.new.result) es c.self.invariant)

pub returns-clause-removed : goal.returns-clause-removed
returns-clause-removed c =
    let es : List (state.Hold × HeldView) = c.self.inside.holds.entries in
    c.swap_remove.ensures.value
    ∙ ap (λ (l : state.Hold). lookup (same_as l) es) c.new.ensures
    ∙ shown es c.self.invariant c.args.session c.args.token
    ∙ ap (λ (rs : List HeldView). right_of rs c.args.session c.args.token) c.self.view_is

pub returns-clause-others : goal.returns-clause-others
returns-clause-others c =
    let es : List (state.Hold × HeldView) = c.self.inside.holds.entries in
    let fs : List (state.Hold × HeldView) = c.swap_remove.new.self.entries in
    let k = key c.args.session c.args.token in
    let keyed : AreRightsKeyed fs = subst (λ (fs : List (state.Hold × HeldView)). AreRightsKeyed fs) (sym c.swap_remove.ensures.entries) (keyed-removed (same_as c.new.result) es c.self.invariant) in
    λ u v. sym (shown fs keyed u v)
    ∙ c.swap_remove.ensures.updates.0 (key u v)
    ∙ ap (λ (l : state.Hold). cond (same_as l (key u v)) None (lookup (same_as (key u v)) es)) c.new.ensures
    ∙ ap (λ r. cond (same_as k (key u v)) None r) (shown es c.self.invariant u v)
    ∙ ap (λ (rs : List HeldView). cond (same_as k (key u v)) None (right_of rs u v)) c.self.view_is

pub returns-clause-len : goal.returns-clause-len
returns-clause-len c = grind (arith, elements)
