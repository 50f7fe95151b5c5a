use Rattle.cat_service.proofs.Begun.{opens_caused, opens_unread}
use Rattle.cat_service.proofs.world.World.open_heard.Goals as goal

pub returns-in-None : goal.returns-in-None
returns-in-None g c = opens_unread g.D.Holder.bytes g.D.Holder.may_leave g.D.Holder.can_fail g.D.Holder.fault_count c.args.seed _ c.in-None.ensures.none

pub returns-in-Some : goal.returns-in-Some
returns-in-Some g c =
    let said = c.open.ensures in
    rw c.in-Some.ensures.found (opens_caused g.D.Holder.bytes g.D.Holder.may_leave g.D.Holder.can_fail g.D.Holder.fault_count c.args.seed c.in-Some.text.now c.open.result
    said.opens said.ahead said.can said.begins said.sets said.counted)
