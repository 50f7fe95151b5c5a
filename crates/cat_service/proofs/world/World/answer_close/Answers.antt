use Rattle.std.proofs.Common.{ap, arith, refl, subst}
use Rattle.cat_model.specs.Lines.{Said}
use Rattle.cat_commands.specs.cat_protocol.replies.Reply.{reply_of}
use Rattle.cat_commands.specs.cat_ledger.Ledgers.{device_in, shape_in}
use Rattle.cat_service.proofs.Caused.{unchanged_making, unchanged_still}
use Rattle.cat_service.proofs.Kept.{does, world_stays}
use Rattle.cat_service.proofs.Wanted.{stopped, close_wants}
use Rattle.cat_service.proofs.world.World.answer_close.Goals as goal

pub invariant_of-self : goal.invariant_of-self
invariant_of-self g c =
    world_stays g.D.Holder.bytes c.args.session (Said.close c.args.token) c.self.inside.ledger (reply_of c.close.result) c.close.new.ledger
    c.self.invariant c.close.ensures.answers

pub returns-clause-does : goal.returns-clause-does
returns-clause-does g c = rw (← c.self.view_is) (
    does g.D.Holder.bytes g.D.Holder.can_fail g.D.Holder.fault_count c.args.session (Said.close c.args.token) c.self.inside.ledger (reply_of c.close.result) c.close.new.ledger
    c.self.inside.filters c.self.invariant (record { spent = λ k. tt; device = λ k. tt; counted = λ k. tt; damaged = λ k. tt; reached = λ k. tt; quiet = λ k. ap g.D.Holder.fault_count c.close.ensures.same; told = tt; swept = tt; rises = omega (arith, ap g.D.Holder.fault_count c.close.ensures.same); stays = tt; keeps = tt; making = unchanged_making c.self.inside.ledger c.close.new.ledger c.close.result _ c.close.ensures.err; still = unchanged_still c.self.inside.ledger c.close.new.ledger c.close.result c.close.ensures.err }) refl c.close.ensures.answers (subst g.D.Holder.can_fail c.close.ensures.same) c.close.ensures.goes.policy refl
    (λ k. close_wants (g.D.Holder.bytes (device_in c.self.inside.ledger)) (shape_in c.self.inside.ledger) c.args.session c.close.result (stopped c.close.result k) c.args.token c.close.ensures.refusal))

pub returns-clause-history : goal.returns-clause-history
returns-clause-history g c = rw (← c.self.view_is) c.close.ensures.goes.history
