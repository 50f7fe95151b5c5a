use Rattle.std.proofs.Common.{◌∙◌, refl, ap}
use Rattle.cat_model.specs.Run.{Command}
use Rattle.cat_ledger.proofs.Results.{passed_on}
use Rattle.cat_ledger.proofs.Answered.{unsnap_begun, unsnap_refused}
use Rattle.cat_ledger.proofs.Lasting.{memory_keeps, newest_stays, same_needs}
use Rattle.cat_ledger_laws.specs.model.Calls.{Unsnapped}
use Rattle.cat_ledger_laws.proofs.shape.Committed.{unsnaps_make}
use Rattle.cat_ledger.proofs.Histories.{goes_so, memory_goes}
use Rattle.cat_ledger.proofs.Lasting.{newest_same}
use Rattle.cat_ledger_laws.specs.shape.Shapes.{Shape}
use Rattle.cat_ledger_laws.specs.shape.Steps.{newest_generation}
use Rattle.cat_ledger.proofs.ledger.Ledger.unsnapshot.Goals as goal

pub invariant_of-self-2 : goal.invariant_of-self-2
invariant_of-self-2 g c =
    let told = g.D.Holder.bytes c.self.inside.device in
    memory_keeps g.D.Holder.bytes g.D.Holder.may_leave g.met.D.Holder.may_stay (Unsnapped c.args.generation) c.self.inside.device c.self.inside.core
    c.unsnapshot.new.self
    (same_needs _ _ c.in_ok-left.ensures.ok.rest ∙ newest_stays c.unsnapshot.new.self.taken c.self.inside.core.commits)
    (unsnaps_make c.args.generation c.self.inside.core c.unsnapshot.new.self told told c.in_ok-left.ensures.ok (λ q. refl)) c.self.invariant

pub returns-in_err-left-clause-answers : goal.returns-in_err-left-clause-answers
returns-in_err-left-clause-answers g c =
    let told = g.D.Holder.bytes c.self.inside.device in
    let e = c.in_err-left.field-0.0 in
    rw (← c.self.view_is) (rw (passed_on c.from_residual.result e c.from_residual.ensures) (λ session. (
      Command.release_snapshot c.args.generation,
      refl,
      unsnap_refused c.self.inside.policy told told c.self.inside.core c.unsnapshot.new.self session c.args.generation e
          c.in_err-left.ensures.none (c.in_err-left.ensures.err, λ q. refl) c.in_err-left.ensures.refusal,
    )))

pub returns-clause-answers : goal.returns-clause-answers
returns-clause-answers g c =
    let told = g.D.Holder.bytes c.self.inside.device in
    let s = c.self.inside.core in
    let n = c.args.generation in
    let new = c.unsnapshot.new.self in
    let ok = c.in_ok-left.ensures.ok in
    rw (← c.self.view_is) (λ session. (
      Command.release_snapshot n,
      refl,
      unsnap_begun c.self.inside.policy told told s new session n c.in_ok-left.left ok.some (c.in_ok-left.ensures.left ∙ ok.taken n)
          (unsnaps_make n s new told told ok (λ q. refl)),
    ))

pub returns-clause-goes : goal.returns-clause-goes
returns-clause-goes g c =
    rw (← c.self.view_is) (goes_so g.D.Holder.bytes g.D.Holder.may_leave (memory_goes g.D.Holder.bytes g.D.Holder.may_leave c.self.inside.device c.self.inside.core c.unsnapshot.new.self c.self.inside.policy c.self.inside.policy
    (ap (λ (x : Shape). newest_generation x.commits) c.in_ok-left.ensures.ok.rest ∙ newest_same c.unsnapshot.new.self.taken c.self.inside.core.commits)
    (ap (λ (x : Shape). x.next_generation) c.in_ok-left.ensures.ok.rest)
    (ap (λ (x : Shape). x.next_segment) c.in_ok-left.ensures.ok.rest) (ap (λ (x : Shape). x.merging) c.in_ok-left.ensures.ok.rest)))
