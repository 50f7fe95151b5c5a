use Rattle.std.proofs.Common.{subst, sym, ap}
use Rattle.cat_ledger.proofs.Lasting.{held_carried, kept_still, same_needs}
use Rattle.cat_ledger.specs.Grants.{IsAsked}
use Rattle.cat_ledger.proofs.Histories.{goes_so, memory_goes, nothing_goes_on}
use Rattle.cat_ledger_laws.specs.shape.Shapes.{Shape}
use Rattle.cat_ledger_laws.specs.shape.Steps.{newest_generation}
use Rattle.cat_ledger.proofs.ledger.Ledger.acquire.Goals as goal

pub invariant_of-self-2 : goal.invariant_of-self-2
invariant_of-self-2 g c =
    let t = c.in-Some.token in
    let s = c.self.inside.core in
    let s' = c.grant_right.new.core in
    kept_still g.D.Holder.bytes g.D.Holder.may_leave g.met.D.Holder.may_stay c.self.inside.device c.self.inside.device s s'
    (held_carried c.self.inside.policy (g.D.Holder.bytes c.self.inside.device) s s' c.args.session t c.in-Some.ensures.there
    c.in-Ok.ensures.ok c.self.invariant.carried)
    (same_needs _ _ c.in-Ok.ensures.ok) (λ q needed e might. might) c.self.invariant

pub returns-then-is_held_by-clause-asked : goal.returns-then-is_held_by-clause-asked
returns-then-is_held_by-clause-asked g c = rw (← c.self.view_is) c.in-Some.ensures.some

pub returns-clause-asked : goal.returns-clause-asked
returns-clause-asked g c =
    rw (← c.self.view_is) (subst (λ t. IsAsked c.self.inside.core c.args.token t) (sym c.in-Ok.ensures.token) c.in-Some.ensures.some)

pub returns-in-Err-clause-due : goal.returns-in-Err-clause-due
returns-in-Err-clause-due g c = rw (← c.self.view_is) (λ _. (c.in-Some.token, c.in-Some.ensures.some, sym c.if-is_held_by.ensures))

pub returns-in_default-clause-gone : goal.returns-in_default-clause-gone
returns-in_default-clause-gone g c = rw (← c.self.view_is) (λ _. c.in_default.ensures.none)

pub returns-in_default-clause-goes : goal.returns-in_default-clause-goes
returns-in_default-clause-goes g c =
    nothing_goes_on g.D.Holder.bytes g.D.Holder.may_leave c.args.self.now

pub returns-then-is_held_by-clause-goes : goal.returns-then-is_held_by-clause-goes
returns-then-is_held_by-clause-goes g c =
    nothing_goes_on g.D.Holder.bytes g.D.Holder.may_leave c.args.self.now

pub returns-in-Err-clause-goes : goal.returns-in-Err-clause-goes
returns-in-Err-clause-goes g c =
    rw (← c.self.view_is) (goes_so g.D.Holder.bytes g.D.Holder.may_leave (memory_goes g.D.Holder.bytes g.D.Holder.may_leave c.self.inside.device c.self.inside.core c.grant_right.new.core c.self.inside.policy c.self.inside.policy
    (ap (λ (x : Shape). newest_generation x.commits) c.in-Err.ensures.err) (ap (λ (x : Shape). x.next_generation) c.in-Err.ensures.err)
    (ap (λ (x : Shape). x.next_segment) c.in-Err.ensures.err) (ap (λ (x : Shape). x.merging) c.in-Err.ensures.err)))

pub returns-clause-goes : goal.returns-clause-goes
returns-clause-goes g c =
    rw (← c.self.view_is) (goes_so g.D.Holder.bytes g.D.Holder.may_leave (memory_goes g.D.Holder.bytes g.D.Holder.may_leave c.self.inside.device c.self.inside.core c.grant_right.new.core c.self.inside.policy c.self.inside.policy
    (ap (λ (x : Shape). newest_generation x.commits) c.in-Ok.ensures.ok) (ap (λ (x : Shape). x.next_generation) c.in-Ok.ensures.ok)
    (ap (λ (x : Shape). x.next_segment) c.in-Ok.ensures.ok) (ap (λ (x : Shape). x.merging) c.in-Ok.ensures.ok)))
