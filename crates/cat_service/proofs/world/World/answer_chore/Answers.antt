use Rattle.std.proofs.Common.{refl}
use Rattle.cat_model.specs.Lines.{Said}
use Rattle.cat_commands.specs.cat_protocol.replies.Reply.{reply_of}
use Rattle.cat_commands.specs.ledger.Chores.{chore_of}
use Rattle.cat_commands.proofs.sets.Right.{remembered_are_right}
use Rattle.cat_service.specs.Worlds.{IsWorld}
use Rattle.cat_service.proofs.Kept.{does, world_stays}
use Rattle.cat_service.proofs.Cached.{chore_uses}
use Rattle.cat_service.proofs.Caused.{chore_caused}
use Rattle.cat_commands.specs.cat_ledger.Ledgers.{device_in, policy_in, shape_in}
use Rattle.cat_service.proofs.Wanted.{stopped, maintained_wants}
use Rattle.cat_service.proofs.world.World.answer_chore.Goals as goal

pub invariant_of-self : goal.invariant_of-self
invariant_of-self g c =
    let w : IsWorld g.D.Holder.bytes c.maintain.new.ledger c.self.inside.filters c.self.inside.states =
    world_stays g.D.Holder.bytes c.args.session (Said.chore (chore_of c.args.chore)) c.self.inside.ledger (reply_of c.maintain.result) c.maintain.new.ledger
    c.self.invariant c.maintain.ensures.answers in record {
      carried = w.carried;
      sets =
          remembered_are_right (shape_in c.maintain.new.ledger) c.self.inside.filters c.maintain.new.filters c.maintain.ensures.known
          c.maintain.ensures.below w.sets;
      kept = w.kept;
    }

pub returns-clause-does : goal.returns-clause-does
returns-clause-does g c = rw (← c.self.view_is) (
    does g.D.Holder.bytes g.D.Holder.can_fail g.D.Holder.fault_count c.args.session (Said.chore (chore_of c.args.chore)) c.self.inside.ledger (reply_of c.maintain.result) c.maintain.new.ledger
    c.maintain.new.filters c.self.invariant (chore_caused g.D.Holder.bytes g.D.Holder.can_fail g.D.Holder.fault_count c.self.inside.ledger c.self.inside.filters c.maintain.result c.maintain.new.ledger c.maintain.new.filters c.args.session c.self.invariant.carried (λ k. let f = c.maintain.ensures.foreign k in (f.0, f.1)) c.args.chore c.maintain.ensures.answers c.maintain.ensures.told c.maintain.ensures.refusal c.maintain.ensures.lacks c.maintain.ensures.reach c.maintain.ensures.fails c.maintain.ensures.swept c.maintain.ensures.keeps)
    (chore_uses c.args.session c.self.inside.ledger c.maintain.new.ledger c.self.inside.filters c.maintain.new.filters c.args.chore (reply_of c.maintain.result)
    (λ k. let f = c.maintain.ensures.foreign k in f.2) c.maintain.ensures.sets) c.maintain.ensures.answers c.maintain.ensures.fails.can c.maintain.ensures.goes.policy refl
    (λ k. maintained_wants (g.D.Holder.bytes (device_in c.self.inside.ledger)) (shape_in c.self.inside.ledger) c.args.session c.maintain.result (stopped c.maintain.result k) (policy_in c.self.inside.ledger) c.args.chore (λ k. let f = c.maintain.ensures.foreign k in (f.0, f.1)) c.maintain.ensures.refusal))

pub returns-clause-history : goal.returns-clause-history
returns-clause-history g c = rw (← c.self.view_is) c.maintain.ensures.goes.history
