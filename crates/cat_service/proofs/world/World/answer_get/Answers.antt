use Rattle.std.proofs.Common.{refl}
use Rattle.cat_model.specs.Lines.{Said}
use Rattle.cat_commands.specs.cat_protocol.replies.Reply.{reply_of}
use Rattle.cat_service.proofs.Kept.{does_telling, world_stays}
use Rattle.cat_service.proofs.Names.{source_told}
use Rattle.cat_service.proofs.Caused.{get_caused}
use Rattle.cat_commands.specs.cat_ledger.Ledgers.{device_in, shape_in}
use Rattle.cat_service.proofs.Wanted.{stopped, get_wants}
use Rattle.cat_service.proofs.world.World.answer_get.Goals as goal

pub invariant_of-self : goal.invariant_of-self
invariant_of-self g c =
    world_stays g.D.Holder.bytes c.args.session (Said.get c.args.token c.args.id.now) c.self.inside.ledger (reply_of c.get.result) c.get.new.ledger
    c.self.invariant c.get.ensures.answers

pub returns-clause-does : goal.returns-clause-does
returns-clause-does g c = rw (← c.self.view_is) (
    does_telling g.D.Holder.bytes g.D.Holder.can_fail g.D.Holder.fault_count c.args.session (Said.get c.args.token c.args.id.now) c.self.inside.ledger (reply_of c.get.result) c.get.new.ledger
    c.self.inside.filters c.self.invariant (get_caused g.D.Holder.bytes g.D.Holder.can_fail g.D.Holder.fault_count c.self.inside.ledger c.self.inside.filters c.get.result c.get.new.ledger c.self.inside.filters c.args.token c.args.id.now c.get.ensures.damaged c.get.ensures.reach c.get.ensures.fails c.get.ensures.shape) refl c.get.ensures.answers c.get.ensures.fails.can c.get.ensures.goes.policy
    (source_told (shape_in c.self.inside.ledger) c.args.token c.args.id.now c.get.result c.get.ensures.one_line)
    (λ k. get_wants (g.D.Holder.bytes (device_in c.self.inside.ledger)) (shape_in c.self.inside.ledger) c.args.session c.get.result (stopped c.get.result k) c.args.token c.args.id.now c.get.ensures.wrong c.get.ensures.due))

pub returns-clause-history : goal.returns-clause-history
returns-clause-history g c = rw (← c.self.view_is) c.get.ensures.goes.history
