use Rattle.std.proofs.Common.{refl, arith, ap, subst}
use Rattle.cat_model.specs.Lines.{Said}
use Rattle.cat_commands.specs.cat_protocol.replies.Reply.{reply_of}
use Rattle.cat_service.proofs.Caused.{unchanged_making, unchanged_still}
use Rattle.cat_service.proofs.Kept.{does, world_stays}
use Rattle.cat_commands.specs.cat_ledger.Ledgers.{device_in, shape_in}
use Rattle.cat_service.proofs.Wanted.{stopped, query_delete_wants}
use Rattle.cat_service.proofs.world.World.answer_delete_where.Goals as goal

pub invariant_of-self : goal.invariant_of-self
invariant_of-self g c =
    world_stays g.D.Holder.bytes 0 (Said.delete_where c.args.text.now) c.self.inside.ledger (reply_of c.delete_where.result) c.delete_where.new.ledger
    c.self.invariant (c.delete_where.ensures.answers 0)

pub returns-clause-does : goal.returns-clause-does
returns-clause-does g c = rw (← c.self.view_is) (λ session.
    does g.D.Holder.bytes g.D.Holder.can_fail g.D.Holder.fault_count session (Said.delete_where c.args.text.now) c.self.inside.ledger (reply_of c.delete_where.result) c.delete_where.new.ledger
    c.self.inside.filters c.self.invariant (record { spent = λ k. tt; device = λ k. tt; counted = λ k. tt; damaged = λ k. tt; reached = λ k. tt; quiet = λ k. ap g.D.Holder.fault_count c.delete_where.ensures.same; told = tt; swept = tt; rises = omega (arith, ap g.D.Holder.fault_count c.delete_where.ensures.same); stays = tt; keeps = tt; making = unchanged_making c.self.inside.ledger c.delete_where.new.ledger c.delete_where.result _ c.delete_where.ensures.err; still = unchanged_still c.self.inside.ledger c.delete_where.new.ledger c.delete_where.result c.delete_where.ensures.err }) refl (c.delete_where.ensures.answers session) (subst g.D.Holder.can_fail c.delete_where.ensures.same) c.delete_where.ensures.goes.policy refl
    (λ k. query_delete_wants (g.D.Holder.bytes (device_in c.self.inside.ledger)) (shape_in c.self.inside.ledger) session c.delete_where.result (stopped c.delete_where.result k) c.args.text.now c.delete_where.ensures.due))

pub returns-clause-history : goal.returns-clause-history
returns-clause-history g c = rw (← c.self.view_is) c.delete_where.ensures.goes.history
