use Rattle.std.proofs.Common.{◌≡◌, ℕ, List, true, false, Bool, Option, None, Some, refl, sym, ◌∙◌}
use Rattle.std.specs.Prelude.{IfNone, IfSome, find, option_map, ◌==◌}
use Rattle.cat_model.specs.State.{has_hold}
use Rattle.cat_model.specs.View.{View}
use Rattle.cat_ledger_laws.specs.lines.ReadLaws.{IsRecordedAs}
use Rattle.cat_ledger.proofs.Held.{unheld_where_none}
use Rattle.cat_ledger.proofs.ledger.Ledger.held_view.Goals as goal

found : {X : Type 0} (Held : Type 0) (f : X → View) (o : Option X) (views : List View) (t : ℕ) → Held → option_map f o ≡ find (λ v. v.token == t) views → IfSome o (λ x. Held × IsRecordedAs views t (f x))
found Held f None views t h e = tt
found Held f (Some x) views t h e = (h, sym e)

pub returns-clause-some : goal.returns-clause-some
returns-clause-some g c = rw (← c.self.view_is) (
    let s = c.self.inside.core in
    found (has_hold s.holds c.args.session c.args.token ≡ true) (λ v. v.now) c.view_at.result s.views c.args.token (sym c.is_held_by.ensures ∙ c.if-not-is_held_by.false) c.view_at.ensures)

none_found : {X : Type 0} (o : Option X) (b : Bool) → b ≡ true → (b ≡ true → o ≡ None → ⊥) → IfNone o (b ≡ false)
none_found None b held there = absurd (there held refl)
none_found (Some x) b held there = tt

pub returns-clause-none : goal.returns-clause-none
returns-clause-none g c = rw (← c.self.view_is) (
    none_found c.view_at.result (has_hold c.self.inside.core.holds c.args.session c.args.token) (sym c.is_held_by.ensures ∙ c.if-not-is_held_by.false)
    (unheld_where_none (g.D.Holder.bytes c.self.inside.device) c.self.inside.core c.self.invariant.carried c.args.session c.args.token (λ v. v.now)
    c.view_at.result c.view_at.ensures))

pub returns-then-not-is_held_by-clause-some : goal.returns-then-not-is_held_by-clause-some
returns-then-not-is_held_by-clause-some g c = tt
