use Rattle.std.proofs.Common.{◌≡◌, ◌∙◌, List, ℕ, None, Some, ap, sym, subst}
use Rattle.cat_threads.specs.cat_commands.cat_cached_sets.cat_views.Holds.{HeldView}
use Rattle.cat_threads.specs.cat_commands.cat_lifetimes.rights.Rights.{TakesOut, right_of}
use Rattle.cat_callers.specs.Sessions.{Kept}
use Rattle.cat_callers.specs.Told.{ToldClose}
use Rattle.cat_callers.proofs.front.Front.close.Goals as goal

pub returns-in_default-clause-told : goal.returns-in_default-clause-told
returns-in_default-clause-told g c =
    let t = c.args.token in
    let old = c.args.holdings.now in
    ToldClose.unheld
    (subst (λ (s : ℕ). right_of old.rights s t ≡ None) c.requires.own
    (subst (λ (k : Kept). right_of k.rights k.session t ≡ None) c.holdings.view_is (sym c.in_default.ensures.removed)))
    (c.in_default.ensures.unchanged ∙ ap (λ (k : Kept). k.rights) c.holdings.view_is)

pub returns-then-not-give_back-clause-told : goal.returns-then-not-give_back-clause-told
returns-then-not-give_back-clause-told g c =
    let t = c.args.token in
    let old = c.args.holdings.now in
    let hold = c.in-Some.hold in
    let new = c.remove.new.self in
    ToldClose.uncounted hold
    (subst (λ (s : ℕ). right_of old.rights s t ≡ Some hold) c.requires.own
    (subst (λ (k : Kept). right_of k.rights k.session t ≡ Some hold) c.holdings.view_is (sym c.in-Some.ensures.removed)))
    (subst (λ (s : ℕ). TakesOut s t old.rights new) c.requires.own
    (subst (λ (k : Kept). TakesOut k.session t k.rights new) c.holdings.view_is c.in-Some.ensures.others))

pub returns-clause-told : goal.returns-clause-told
returns-clause-told g c =
    let t = c.args.token in
    let old = c.args.holdings.now in
    let hold = c.in-Some.hold in
    let new = c.remove.new.self in
    ToldClose.ended hold
    (subst (λ (s : ℕ). right_of old.rights s t ≡ Some hold) c.requires.own
    (subst (λ (k : Kept). right_of k.rights k.session t ≡ Some hold) c.holdings.view_is (sym c.in-Some.ensures.removed)))
    (subst (λ (s : ℕ). TakesOut s t old.rights new) c.requires.own
    (subst (λ (k : Kept). TakesOut k.session t k.rights new) c.holdings.view_is c.in-Some.ensures.others))
