use Rattle.cat_model.specs.Served.{Outcome}
use Rattle.cat_service.proofs.Hearing.{unread}
use Rattle.cat_service.proofs.machine.WorldMachine.answer.Goals as goal

pub answer_text-requires : goal.answer_text-requires
answer_text-requires g c = c.in-Some.ensures.readable

pub returns-in-None : goal.returns-in-None
returns-in-None g c = (
  Outcome.unreadable,
  unread g.D.Holder.bytes g.D.Holder.may_leave g.D.Holder.can_fail g.D.Holder.fault_count c.args.self.now _ c.in-None.ensures.none,
  c.send_unreadable.ensures,
)

pub returns-in-Some : goal.returns-in-Some
returns-in-Some g c = rw c.in-Some.ensures.found c.answer_text.ensures
