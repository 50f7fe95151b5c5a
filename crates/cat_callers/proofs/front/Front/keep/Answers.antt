use Rattle.std.proofs.Common.{◌≡◌, ◌∙◌, ℕ, ap, inr, refl, sym, subst}
use Rattle.cat_threads.specs.cat_commands.cat_lifetimes.rights.Rights.{right_of}
use Rattle.cat_callers.specs.Sessions.{Kept}
use Rattle.cat_callers.specs.Told.{Holds}
use Rattle.cat_callers.proofs.Telling.{is_found}
use Rattle.cat_callers.proofs.front.Front.keep.Goals as goal

pub returns-then-is_some-clause-kept : goal.returns-then-is_some-clause-kept
returns-then-is_some-clause-kept g c =
    let t = c.args.hold.view.token in
    let rights = c.holdings.inside.rights in
    let number = c.holdings.inside.number in
    let own : c.args.hold.session ≡ number = c.requires.own ∙ sym (ap (λ (k : Kept). k.session) c.holdings.view_is) in
    let found = is_found (λ h. h.now) c.get.result (right_of rights c.args.hold.session t) (sym c.is_some.ensures ∙ c.if-is_some.true)
    (c.get.ensures ∙ ap (λ (s : ℕ). right_of rights s c.token-token.result) c.session.ensures ∙ ap (λ (n : ℕ). right_of rights c.args.hold.session n) c.token-token.ensures) in
    inr (refl, subst (λ (k : Kept). Holds k.rights k.session t) c.holdings.view_is (subst (λ (s : ℕ). Holds rights s t) own found))
