use Rattle.std.proofs.Common.{refl}
use Rattle.cat_model.specs.Lines.{Said}
use Rattle.cat_commands.specs.cat_protocol.replies.Reply.{reply_of}
use Rattle.cat_service.proofs.Kept.{does, world_stays}
use Rattle.cat_service.proofs.Caused.{put_caused}
use Rattle.cat_commands.specs.cat_ledger.Ledgers.{device_in, shape_in}
use Rattle.cat_service.proofs.Wanted.{stopped, put_wants}
use Rattle.cat_service.proofs.world.World.answer_put.Goals as goal

pub invariant_of-self : goal.invariant_of-self
invariant_of-self g c =
    world_stays g.D.Holder.bytes 0 (Said.put c.args.text.now) c.self.inside.ledger (reply_of c.put.result) c.put.new.ledger
    c.self.invariant (c.put.ensures.answers 0)

pub returns-clause-does : goal.returns-clause-does
returns-clause-does g c = rw (← c.self.view_is) (λ session.
    does g.D.Holder.bytes g.D.Holder.can_fail g.D.Holder.fault_count session (Said.put c.args.text.now) c.self.inside.ledger (reply_of c.put.result) c.put.new.ledger
    c.self.inside.filters c.self.invariant (put_caused g.D.Holder.bytes g.D.Holder.can_fail g.D.Holder.fault_count c.self.inside.ledger c.self.inside.filters c.put.result c.put.new.ledger c.self.inside.filters c.args.text.now c.put.ensures.spent c.put.ensures.fails c.put.ensures.stays) refl (c.put.ensures.answers session) c.put.ensures.fails.can c.put.ensures.goes.policy refl
    (λ k. put_wants (g.D.Holder.bytes (device_in c.self.inside.ledger)) (shape_in c.self.inside.ledger) session c.put.result (stopped c.put.result k) c.args.text.now c.put.ensures.due))

pub returns-clause-history : goal.returns-clause-history
returns-clause-history g c = rw (← c.self.view_is) c.put.ensures.goes.history
