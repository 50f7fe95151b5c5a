use Rattle.std.proofs.Common.{◌≡◌, refl, ap, subst, sym}
use Rattle.cat_model.specs.Run.{Command}
use Rattle.cat_ledger.proofs.Results.{either_way}
use Rattle.cat_ledger_state.proofs.Results.{on_err}
use Rattle.cat_ledger.specs.Lasting.{IsLasting}
use Rattle.cat_ledger.proofs.Answered.{snap_begun}
use Rattle.cat_ledger.proofs.Lasting.{memory_keeps, same_needs}
use Rattle.cat_ledger_laws.specs.model.Calls.{Snaps}
use Rattle.cat_ledger_laws.proofs.shape.Committed.{snaps_make}
use Rattle.cat_ledger.proofs.Histories.{goes_so, memory_goes}
use Rattle.cat_ledger.specs.Histories.{Event, Goes}
use Rattle.cat_ledger_laws.specs.shape.Shapes.{Shape}
use Rattle.cat_ledger_laws.specs.shape.Steps.{newest_generation}
use Rattle.cat_ledger.proofs.ledger.Ledger.snapshot.Goals as goal

-- a refusal changes nothing
pub invariant_of-self : goal.invariant_of-self
invariant_of-self g c =
    let bytes = g.D.Holder.bytes in
    let left = g.D.Holder.may_leave in
    let d = c.self.inside.device in
    let s = c.self.inside.core in
    let new = c.snapshot.new.self in
    either_way (IsLasting bytes left d new) (new ≡ s) c.snapshot.result c.snapshot.ensures.ok c.snapshot.ensures.err
    (λ n snapped. memory_keeps bytes left g.met.D.Holder.may_stay (Snaps n) d s new (same_needs _ _ snapped.rest)
    (snaps_make n s new (bytes d) (bytes d) snapped (λ q. refl)) c.self.invariant)
    (λ same. subst (λ (x : Shape). IsLasting bytes left d x) (sym same) c.self.invariant)

pub returns-clause-err : goal.returns-clause-err
returns-clause-err g c =
    rw (← c.self.view_is) (on_err _ _ c.snapshot.result (λ same i. record {
      device = c.self.inside.device;
      core = same i;
      policy = c.self.inside.policy;
    }) c.snapshot.ensures.err)

pub returns-clause-answers : goal.returns-clause-answers
returns-clause-answers g c =
    let told = g.D.Holder.bytes c.self.inside.device in
    let done = c.snapshot in
    rw (← c.self.view_is) (λ session. (
      Command.snapshot,
      refl,
      snap_begun c.self.inside.policy told told c.self.inside.core done.new.self session done.result (λ q. refl) done.ensures.ok done.ensures.room
          done.ensures.none done.ensures.spent done.ensures.refusal done.ensures.err,
    ))

pub returns-clause-due : goal.returns-clause-due
returns-clause-due g c = rw (← c.self.view_is) c.snapshot.ensures.due

pub returns-clause-goes : goal.returns-clause-goes
returns-clause-goes g c =
    let bytes = g.D.Holder.bytes in
    let left = g.D.Holder.may_leave in
    let d = c.self.inside.device in
    let s = c.self.inside.core in
    let new = c.snapshot.new.self in
    let policy = c.self.inside.policy in
    rw (← c.self.view_is) (goes_so bytes left (either_way
    (Goes bytes left Event.Other (record { device = d; core = s; policy = policy }) (record { device = d; core = new; policy = policy }))
    (new ≡ s) c.snapshot.result c.snapshot.ensures.ok c.snapshot.ensures.err
    (λ n snapped. memory_goes bytes left d s new policy policy (ap (λ (x : Shape). newest_generation x.commits) snapped.rest)
    (ap (λ (x : Shape). x.next_generation) snapped.rest) (ap (λ (x : Shape). x.next_segment) snapped.rest) (ap (λ (x : Shape). x.merging) snapped.rest))
    (λ same. memory_goes bytes left d s new policy policy (ap (λ (x : Shape). newest_generation x.commits) same)
    (ap (λ (x : Shape). x.next_generation) same) (ap (λ (x : Shape). x.next_segment) same) (ap (λ (x : Shape). x.merging) same))))
