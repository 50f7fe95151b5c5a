use Rattle.cat_model.specs.Lines.{Said}
use Rattle.cat_commands.specs.cat_ledger.Answering.{number_reply}
use Rattle.cat_commands.specs.cat_protocol.replies.Reply.{reply_of}
use Rattle.cat_service.proofs.Arms.{commit_does}
use Rattle.cat_service.proofs.Kept.{world_stays}
use Rattle.cat_service.proofs.world.World.answer_commit.Goals as goal

pub invariant_of-self : goal.invariant_of-self
invariant_of-self g c =
    world_stays g.D.Holder.bytes 0 (Said.commit c.args.text.now) c.self.inside.ledger (number_reply c.commit.result) c.commit.new.self c.self.invariant (c.commit.ensures.answers 0)

pub returns-clause-does : goal.returns-clause-does
returns-clause-does g c = rw (← c.self.view_is) (λ session.
    commit_does g.D.Holder.bytes g.D.Holder.can_fail g.D.Holder.fault_count session c.self.inside.ledger c.commit.new.self c.commit.result (reply_of c.number_told.result) c.number_told.ensures c.self.invariant g.D.Holder.may_leave
    c.args.text.now (c.commit.ensures.answers session) c.commit.ensures.fails c.commit.ensures.policy c.commit.ensures.stays c.commit.ensures.wrong c.commit.ensures.none c.commit.ensures.spent c.commit.ensures.due c.commit.ensures.history)

pub returns-clause-history : goal.returns-clause-history
returns-clause-history g c = rw (c.number_told.ensures, ← c.self.view_is) c.commit.ensures.history
