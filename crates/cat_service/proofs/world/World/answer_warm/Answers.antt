use Rattle.std.proofs.Common.{refl, arith}
use Rattle.cat_model.specs.Lines.{Said}
use Rattle.cat_model.specs.Run.{Chore}
use Rattle.cat_model.specs.View.{segments_of}
use Rattle.cat_commands.specs.cat_protocol.replies.Reply.{reply_of}
use Rattle.cat_commands.specs.cat_ledger.Ledgers.{device_in, shape_in}
use Rattle.cat_commands.proofs.sets.Right.{current_are_among, warmed_are_right}
use Rattle.cat_service.proofs.Cached.{warm_uses}
use Rattle.cat_service.proofs.Caused.{warm_caused}
use Rattle.cat_service.proofs.Histories.{nothing_goes}
use Rattle.cat_service.proofs.Kept.{does}
use Rattle.cat_service.proofs.Wanted.{stopped, warm_wants}
use Rattle.cat_service.proofs.world.World.answer_warm.Goals as goal

pub invariant_of-self : goal.invariant_of-self
invariant_of-self g c =
    let ledger = c.self.inside.ledger in
    let s = shape_in ledger in
    let w = c.self.invariant in
    let agree = c.segments_are_one.ensures (g.D.Holder.bytes (device_in ledger)) s w.carried.0 w.carried.1 w.carried.2 in record {
      carried = w.carried;
      sets =
          warmed_are_right s (segments_of s.leaves) c.self.inside.filters c.warm.new.filters agree (current_are_among s) c.warm.ensures.known
          c.warm.ensures.below w.sets;
      kept = w.kept;
    }

pub returns-clause-does : goal.returns-clause-does
returns-clause-does g c = rw (← c.self.view_is) (
    does g.D.Holder.bytes g.D.Holder.can_fail g.D.Holder.fault_count c.args.session (Said.chore Chore.warm) c.self.inside.ledger (reply_of c.warm.result) c.self.inside.ledger
    c.warm.new.filters c.self.invariant
    (warm_caused g.D.Holder.bytes g.D.Holder.can_fail g.D.Holder.fault_count c.self.inside.ledger c.self.inside.filters c.warm.result c.self.inside.ledger c.warm.new.filters c.warm.ensures.told refl (omega arith) refl)
    (warm_uses c.args.session c.self.inside.ledger c.self.inside.filters c.warm.new.filters c.warm.result c.warm.ensures.foreign c.warm.ensures.told c.warm.ensures.refusal) c.warm.ensures.answers (λ x. x) refl refl
    (λ k. warm_wants (g.D.Holder.bytes (device_in c.self.inside.ledger)) (shape_in c.self.inside.ledger) c.args.session c.warm.result (stopped c.warm.result k) c.warm.ensures.foreign))

pub returns-clause-history : goal.returns-clause-history
returns-clause-history g c = rw (← c.self.view_is) (nothing_goes g.D.Holder.bytes g.D.Holder.may_leave c.self.inside.ledger)
