use Rattle.cat_model.specs.Lines.{Said}
use Rattle.cat_commands.specs.cat_ledger.Answering.{number_reply}
use Rattle.cat_commands.specs.cat_protocol.replies.Reply.{reply_of}
use Rattle.cat_service.proofs.Arms.{refresh_does}
use Rattle.cat_service.proofs.Kept.{world_stays}
use Rattle.cat_service.proofs.world.World.answer_refresh.Goals as goal

pub invariant_of-self : goal.invariant_of-self
invariant_of-self g c =
    world_stays g.D.Holder.bytes 0 Said.refresh c.self.inside.ledger (number_reply c.refresh.result) c.refresh.new.self c.self.invariant (c.refresh.ensures.answers 0)

pub returns-clause-does : goal.returns-clause-does
returns-clause-does g c = rw (← c.self.view_is) (λ session.
    refresh_does g.D.Holder.bytes g.D.Holder.can_fail g.D.Holder.fault_count session c.self.inside.ledger c.refresh.new.self c.refresh.result (reply_of c.number_told.result) c.number_told.ensures c.self.invariant
    (c.refresh.ensures.answers session) c.refresh.ensures.fails c.refresh.ensures.goes.policy c.refresh.ensures.stays c.refresh.ensures.spent c.refresh.ensures.full c.refresh.ensures.due)

pub returns-clause-history : goal.returns-clause-history
returns-clause-history g c = rw (← c.self.view_is) c.refresh.ensures.goes.history
