use Rattle.std.proofs.Common.{◌≡◌, ℕ, ◌∙◌, List, length, sym}
use Rattle.std.specs.Prelude.{None, Ok, option_map}
use Rattle.cat_base.specs.declared.refusal.Refusal.TheVariants.{Damaged, Memory}
use Rattle.cat_model.specs.Answer.{stored}
use Rattle.cat_model.specs.View.{View, records_in}
use Rattle.cat_ledger_state.specs.cat_views.Sources.{HoldsSource, MayReachSource, TellsSource, stored_length}
use Rattle.cat_ledger_laws.specs.lines.ReadLaws.{IsRecordedAs}
use Rattle.cat_ledger.proofs.Failures.{reading_fails}
use Rattle.cat_ledger.proofs.Held.{of_recorded, unheld_where_none}
use Rattle.cat_ledger.proofs.Histories.{goes_so, reading_goes}
use Rattle.cat_ledger.proofs.Lasting.{reading_keeps}
use Rattle.cat_ledger.proofs.Results.{either_ok, if_err, if_ok}
use Rattle.cat_ledger.proofs.ledger.Ledger.source.Goals as goal

pub unreachable-requires : goal.unreachable-requires
unreachable-requires g c =
    unheld_where_none (g.D.Holder.bytes c.self.inside.device) c.self.inside.core c.self.invariant.carried c.args.session c.args.token (λ v. v.now)
    c.view_at.result c.view_at.ensures (sym c.is_held_by.ensures ∙ c.if-not-is_held_by.false) c.in_default.is

pub invariant_of-self : goal.invariant_of-self
invariant_of-self g c =
    reading_keeps g.D.Holder.bytes g.D.Holder.may_leave g.met.D.Holder.may_stay c.self.inside.device c.get.new.shelf c.self.inside.core
    c.get.ensures.same c.get.ensures.crash c.self.invariant

pub returns-clause-frame : goal.returns-clause-frame
returns-clause-frame g c = rw (← c.self.view_is) (record { same = c.get.ensures.same; crash = c.get.ensures.crash; can = c.get.ensures.can })

pub returns-clause-fails : goal.returns-clause-fails
returns-clause-fails g c = rw (← c.self.view_is) (reading_fails c.get.result c.get.ensures.device c.get.ensures.counted c.get.ensures.can)

pub returns-clause-goes : goal.returns-clause-goes
returns-clause-goes g c =
    rw (← c.self.view_is) (goes_so g.D.Holder.bytes g.D.Holder.may_leave (reading_goes g.D.Holder.bytes g.D.Holder.may_leave c.self.inside.device c.get.new.shelf c.self.inside.core c.self.inside.policy c.self.inside.policy c.get.ensures.crash))

-- what is said of the view that is read is said of the recorded one
pub returns-clause-held : goal.returns-clause-held
returns-clause-held g c = rw (← c.self.view_is) (
    either_ok c.get.result (sym c.is_held_by.ensures ∙ c.if-not-is_held_by.false, (c.in-Some.view.now, sym c.in-Some.ensures)))

pub returns-clause-ok : goal.returns-clause-ok
returns-clause-ok g c = rw (← c.self.view_is) (
    let told = g.D.Holder.bytes c.self.inside.device in
    let id = c.args.id.now in
    if_ok
    (λ found. (files : ℕ → List ℕ) → TellsSource told files c.in-Some.view.now id → option_map (λ b. b.items) found ≡ stored (records_in files c.in-Some.view.now) id)
    (λ found. (view : View) → IsRecordedAs c.self.inside.core.views c.args.token view → (files : ℕ → List ℕ) → TellsSource told files view id
    → option_map (λ b. b.items) found ≡ stored (records_in files view) id)
    c.get.result
    (λ found p. of_recorded (λ v. (files : ℕ → List ℕ) → TellsSource told files v id → option_map (λ b. b.items) found ≡ stored (records_in files v) id)
    c.self.inside.core.views c.args.token c.in-Some.view.now c.in-Some.ensures p)
    c.get.ensures.ok)

pub returns-clause-whole : goal.returns-clause-whole
returns-clause-whole g c = rw (← c.self.view_is) (
    let id = c.args.id.now in
    if_ok
    (λ found. option_map (λ b. length b.items) found ≡ stored_length c.in-Some.view.now id)
    (λ found. (view : View) → IsRecordedAs c.self.inside.core.views c.args.token view → option_map (λ b. length b.items) found ≡ stored_length view id)
    c.get.result
    (λ found p. of_recorded (λ v. option_map (λ b. length b.items) found ≡ stored_length v id) c.self.inside.core.views c.args.token c.in-Some.view.now
    c.in-Some.ensures p)
    c.get.ensures.whole)

pub returns-clause-none : goal.returns-clause-none
returns-clause-none g c = rw (← c.self.view_is) (λ held view is none.
    (of_recorded (λ v. stored_length v c.args.id.now ≡ None → c.get.result ≡ Ok None) c.self.inside.core.views c.args.token c.in-Some.view.now
    c.in-Some.ensures (λ none. (c.get.ensures.none none).0) view is) none)

pub returns-clause-damaged : goal.returns-clause-damaged
returns-clause-damaged g c = rw (← c.self.view_is) (
    let told = g.D.Holder.bytes c.self.inside.device in
    let id = c.args.id.now in
    if_err
    (λ e. e ≡ Damaged → (files : ℕ → List ℕ) → TellsSource told files c.in-Some.view.now id → HoldsSource files c.in-Some.view.now id → ⊥)
    (λ e. e ≡ Damaged → (view : View) → IsRecordedAs c.self.inside.core.views c.args.token view → (files : ℕ → List ℕ) → TellsSource told files view id
    → HoldsSource files view id → ⊥)
    c.get.result
    (λ e p damaged. of_recorded (λ v. (files : ℕ → List ℕ) → TellsSource told files v id → HoldsSource files v id → ⊥) c.self.inside.core.views
    c.args.token c.in-Some.view.now c.in-Some.ensures (p damaged))
    c.get.ensures.damaged)

pub returns-clause-due : goal.returns-clause-due
returns-clause-due g c = rw (← c.self.view_is) (
    let told = g.D.Holder.bytes c.self.inside.device in
    let id = c.args.id.now in
    if_err
    (λ e. e ≡ Memory → MayReachSource told c.in-Some.view.now id)
    (λ e. e ≡ Memory → (view : View) → IsRecordedAs c.self.inside.core.views c.args.token view → MayReachSource told view id)
    c.get.result
    (λ e p memory. of_recorded (λ v. MayReachSource told v id) c.self.inside.core.views c.args.token c.in-Some.view.now c.in-Some.ensures (p memory))
    c.get.ensures.due)
