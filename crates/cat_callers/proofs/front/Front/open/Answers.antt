use Rattle.std.proofs.Common.{◌≡◌, ◌⊎◌, ℕ, Option, inr, refl, sym, subst}
use Rattle.cat_base.specs.declared.refusal.Refusal.TheVariants.{Memory}
use Rattle.cat_threads.specs.cat_commands.cat_lifetimes.rights.Rights.{PutsIn}
use Rattle.cat_threads.specs.cat_commands.cat_ledger.declared.views.Grant.{Grant}
use Rattle.cat_threads.specs.service.Passes.{Granted, IfNew}
use Rattle.cat_callers.specs.Told.{Holds, IsAskedFor, ToldOpen}
use Rattle.cat_callers.proofs.Telling.{held_told, memory_is_not_gone, opened_told}
use Rattle.cat_callers.proofs.front.Front.open.Goals as goal

pub returns-in-Ok-clause-told : goal.returns-in-Ok-clause-told
returns-in-Ok-clause-told g c =
    let hold = c.in-Ok-New.hold in
    let old = c.args.holdings.now.rights in
    let new = c.keep.new.holdings.rights in
    opened_told g.J.Naming.from c.args.token c.args.me.now c.open.new.me old new hold c.in-Ok.token c.in-Ok.ensures.token
    (subst (λ (r : Grant). IfNew r (λ h. Granted g.J.Naming.from c.args.token c.args.me.now c.open.new.me h)) c.in-Ok-New.field-0-is c.in-Ok-New.ensures.given)
    (subst (λ (s : ℕ). PutsIn hold old new ⊎ ((new ≡ old) × Holds old s hold.view.token)) c.requires.own c.in-Ok.ensures.kept)

pub returns-in-Err-keep-clause-told : goal.returns-in-Err-keep-clause-told
returns-in-Err-keep-clause-told g c = ToldOpen.refused Memory (inr refl) (λ none. memory_is_not_gone refl) c.in-Err-keep.ensures.err

pub returns-in-Some-clause-told : goal.returns-in-Some-clause-told
returns-in-Some-clause-told g c =
    let asked = c.in-Some.asked in
    held_told g.J.Naming.from c.args.token c.args.me.now c.open.new.me c.args.holdings.now.rights c.args.holdings.now.session asked c.tell_held.result c.requires.own
    (subst (λ (o : Option ℕ). IsAskedFor o asked) (sym c.in-Some.is) refl) c.tell_held.ensures.held c.tell_held.ensures.told c.tell_held.ensures.refusal

pub returns-in-None-clause-told : goal.returns-in-None-clause-told
returns-in-None-clause-told g c =
    let held = c.in-Ok-Already.held in
    held_told g.J.Naming.from c.args.token c.args.me.now c.open.new.me c.args.holdings.now.rights c.args.holdings.now.session held c.tell_held-in-None.result
    c.requires.own (subst (λ (o : Option ℕ). IsAskedFor o held) (sym c.in-None.is) tt) c.tell_held-in-None.ensures.held c.tell_held-in-None.ensures.told
    c.tell_held-in-None.ensures.refusal

pub returns-in-Err-clause-told : goal.returns-in-Err-clause-told
returns-in-Err-clause-told g c = ToldOpen.refused c.in-Err.refusal c.in-Err.ensures.refusal c.in-Err.ensures.gone refl

pub returns-in-Ok-clause-seen : goal.returns-in-Ok-clause-seen
returns-in-Ok-clause-seen g c = c.open.ensures.seen

pub returns-in-Ok-clause-idle : goal.returns-in-Ok-clause-idle
returns-in-Ok-clause-idle g c = c.open.ensures.idle

pub returns-in-Err-keep-clause-seen : goal.returns-in-Err-keep-clause-seen
returns-in-Err-keep-clause-seen g c = c.open.ensures.seen

pub returns-in-Err-keep-clause-idle : goal.returns-in-Err-keep-clause-idle
returns-in-Err-keep-clause-idle g c = c.open.ensures.idle

pub returns-in-Some-clause-seen : goal.returns-in-Some-clause-seen
returns-in-Some-clause-seen g c = c.open.ensures.seen

pub returns-in-Some-clause-idle : goal.returns-in-Some-clause-idle
returns-in-Some-clause-idle g c = c.open.ensures.idle

pub returns-in-None-clause-seen : goal.returns-in-None-clause-seen
returns-in-None-clause-seen g c = c.open.ensures.seen

pub returns-in-None-clause-idle : goal.returns-in-None-clause-idle
returns-in-None-clause-idle g c = c.open.ensures.idle

pub returns-in-Err-clause-seen : goal.returns-in-Err-clause-seen
returns-in-Err-clause-seen g c = c.open.ensures.seen

pub returns-in-Err-clause-idle : goal.returns-in-Err-clause-idle
returns-in-Err-clause-idle g c = c.open.ensures.idle

pub returns-in-Ok-clause-same : goal.returns-in-Ok-clause-same
returns-in-Ok-clause-same g c = c.keep.ensures.same

pub returns-in-Err-keep-clause-same : goal.returns-in-Err-keep-clause-same
returns-in-Err-keep-clause-same g c = c.keep.ensures.same

pub returns-in-Some-clause-same : goal.returns-in-Some-clause-same
returns-in-Some-clause-same g c = refl

pub returns-in-None-clause-same : goal.returns-in-None-clause-same
returns-in-None-clause-same g c = refl

pub returns-in-Err-clause-same : goal.returns-in-Err-clause-same
returns-in-Err-clause-same g c = refl
