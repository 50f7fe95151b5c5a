use Rattle.std.proofs.Common.{◌-◌, length, refl, ap}
use Rattle.cat_model.specs.Run.{Command}
use Rattle.cat_ledger_laws.proofs.lines.LineAnswers.{prunes_answer}
use Rattle.cat_ledger.proofs.Answered.{memory_refused, tells_same}
use Rattle.cat_ledger.proofs.Lasting.{memory_keeps, same_needs}
use Rattle.cat_ledger_laws.specs.model.Calls.{Pruned}
use Rattle.cat_ledger_laws.proofs.shape.Views.{prunes_make}
use Rattle.cat_ledger.proofs.Histories.{goes_so, memory_goes}
use Rattle.cat_ledger_laws.specs.shape.Shapes.{Shape}
use Rattle.cat_ledger_laws.specs.shape.Steps.{newest_generation}
use Rattle.cat_ledger.proofs.ledger.Ledger.prune.Goals as goal

pub invariant_of-self-2 : goal.invariant_of-self-2
invariant_of-self-2 g c =
    let told = g.D.Holder.bytes c.self.inside.device in
    memory_keeps g.D.Holder.bytes g.D.Holder.may_leave g.met.D.Holder.may_stay (Pruned c.args.count) c.self.inside.device c.self.inside.core c.prune.new.self
    (same_needs _ _ c.in-Ok.ensures.ok.rest)
    (prunes_make c.args.count c.self.inside.core c.prune.new.self told told c.in-Ok.ensures.ok (λ q. refl)) c.self.invariant

pub returns-in-Err-clause-answers : goal.returns-in-Err-clause-answers
returns-in-Err-clause-answers g c =
    let told = g.D.Holder.bytes c.self.inside.device in
    rw (← c.self.view_is) (λ session. (
      Command.prune c.args.count,
      refl,
      memory_refused c.self.inside.policy told told c.self.inside.core c.prune.new.self session (Command.prune c.args.count) refl
          (c.in-Err.ensures.err, λ q. refl),
    ))

pub returns-clause-answers : goal.returns-clause-answers
returns-clause-answers g c =
    let told = g.D.Holder.bytes c.self.inside.device in
    let s = c.self.inside.core in
    let left = c.prune.new.self in
    rw (← c.self.view_is) (λ session. (
      Command.prune c.args.count,
      refl,
      tells_same c.self.inside.policy told told s left session (Command.prune c.args.count) c.in-Ok.went (length s.views - length left.views)
          c.in-Ok.ensures.went (prunes_answer c.self.inside.policy told told s left session c.args.count
          (prunes_make c.args.count s left told told c.in-Ok.ensures.ok (λ q. refl))),
    ))

pub returns-clause-goes : goal.returns-clause-goes
returns-clause-goes g c =
    rw (← c.self.view_is) (goes_so g.D.Holder.bytes g.D.Holder.may_leave (memory_goes g.D.Holder.bytes g.D.Holder.may_leave c.self.inside.device c.self.inside.core c.prune.new.self c.self.inside.policy c.self.inside.policy
    (ap (λ (x : Shape). newest_generation x.commits) c.in-Ok.ensures.ok.rest) (ap (λ (x : Shape). x.next_generation) c.in-Ok.ensures.ok.rest)
    (ap (λ (x : Shape). x.next_segment) c.in-Ok.ensures.ok.rest) (ap (λ (x : Shape). x.merging) c.in-Ok.ensures.ok.rest)))
