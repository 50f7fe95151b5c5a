use Rattle.std.proofs.Common.{refl, arith, ap, subst}
use Rattle.cat_model.specs.Lines.{Said}
use Rattle.cat_commands.specs.cat_protocol.replies.Reply.{reply_of}
use Rattle.cat_service.proofs.Caused.{unchanged_making, unchanged_still}
use Rattle.cat_service.proofs.Kept.{does, world_stays}
use Rattle.cat_commands.specs.cat_ledger.Ledgers.{device_in, shape_in}
use Rattle.cat_service.proofs.Wanted.{stopped, delete_wants}
use Rattle.cat_service.proofs.world.World.answer_delete.Goals as goal

pub invariant_of-self : goal.invariant_of-self
invariant_of-self g c =
    world_stays g.D.Holder.bytes 0 (Said.delete c.args.id.now) c.self.inside.ledger (reply_of c.delete.result) c.delete.new.ledger
    c.self.invariant (c.delete.ensures.answers 0)

pub returns-clause-does : goal.returns-clause-does
returns-clause-does g c = rw (← c.self.view_is) (λ session.
    does g.D.Holder.bytes g.D.Holder.can_fail g.D.Holder.fault_count session (Said.delete c.args.id.now) c.self.inside.ledger (reply_of c.delete.result) c.delete.new.ledger
    c.self.inside.filters c.self.invariant (record { spent = λ k. tt; device = λ k. tt; counted = λ k. tt; damaged = λ k. tt; reached = λ k. tt; quiet = λ k. ap g.D.Holder.fault_count c.delete.ensures.same; told = tt; swept = tt; rises = omega (arith, ap g.D.Holder.fault_count c.delete.ensures.same); stays = tt; keeps = tt; making = unchanged_making c.self.inside.ledger c.delete.new.ledger c.delete.result _ c.delete.ensures.err; still = unchanged_still c.self.inside.ledger c.delete.new.ledger c.delete.result c.delete.ensures.err }) refl (c.delete.ensures.answers session) (subst g.D.Holder.can_fail c.delete.ensures.same) c.delete.ensures.goes.policy refl
    (λ k. delete_wants (g.D.Holder.bytes (device_in c.self.inside.ledger)) (shape_in c.self.inside.ledger) session c.delete.result (stopped c.delete.result k) c.args.id.now c.delete.ensures.due c.delete.ensures.full))

pub returns-clause-history : goal.returns-clause-history
returns-clause-history g c = rw (← c.self.view_is) c.delete.ensures.goes.history
