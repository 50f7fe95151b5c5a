use Rattle.std.proofs.Common.{ap, arith, subst}
use Rattle.cat_commands.specs.cat_protocol.replies.Reply.{reply_of}
use Rattle.cat_commands.specs.views.Holding.{said_open}
use Rattle.cat_commands.specs.cat_ledger.Ledgers.{device_in, shape_in}
use Rattle.cat_service.proofs.Cached.{opens_leave_sets}
use Rattle.cat_service.proofs.Caused.{open_caused}
use Rattle.cat_service.proofs.Histories.{opens_go}
use Rattle.cat_service.proofs.Kept.{does, world_stays}
use Rattle.cat_service.proofs.Names.{opens_say_none}
use Rattle.cat_service.proofs.Wanted.{stopped, open_wants}
use Rattle.cat_service.proofs.world.World.answer_open.Goals as goal

pub invariant_of-self : goal.invariant_of-self
invariant_of-self g c =
    world_stays g.D.Holder.bytes c.args.session (said_open c.args.token) c.self.inside.ledger (reply_of c.«open».result) c.«open».new.ledger
    c.self.invariant c.«open».ensures.answers

pub returns-clause-does : goal.returns-clause-does
returns-clause-does g c = rw (← c.self.view_is) (
    does g.D.Holder.bytes g.D.Holder.can_fail g.D.Holder.fault_count c.args.session (said_open c.args.token) c.self.inside.ledger (reply_of c.«open».result) c.«open».new.ledger
    c.self.inside.filters c.self.invariant (open_caused g.D.Holder.bytes g.D.Holder.can_fail g.D.Holder.fault_count c.self.inside.ledger c.self.inside.filters c.«open».result c.«open».new.ledger c.self.inside.filters c.args.token (ap g.D.Holder.fault_count c.«open».ensures.same) (omega (arith, ap g.D.Holder.fault_count c.«open».ensures.same)) c.«open».ensures.err) (opens_leave_sets c.args.session c.args.token c.self.inside.ledger c.«open».new.ledger c.self.inside.filters (reply_of c.«open».result)) c.«open».ensures.answers (subst g.D.Holder.can_fail c.«open».ensures.same) c.«open».ensures.goes.policy (opens_say_none c.args.token)
    (λ k. open_wants (g.D.Holder.bytes (device_in c.self.inside.ledger)) (shape_in c.self.inside.ledger) c.args.session c.«open».result (stopped c.«open».result k) c.args.token c.«open».ensures.due))

pub returns-clause-history : goal.returns-clause-history
returns-clause-history g c = rw (← c.self.view_is) (opens_go g.D.Holder.bytes g.D.Holder.may_leave c.args.token (reply_of c.«open».result) c.self.inside.ledger c.«open».new.ledger c.«open».ensures.goes.history)
