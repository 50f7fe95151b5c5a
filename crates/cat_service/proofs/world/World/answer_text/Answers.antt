use Rattle.cat_model.specs.Served.{Outcome}
use Rattle.cat_service.proofs.Hearing.{unheard}
use Rattle.cat_service.proofs.world.World.answer_text.Goals as goal

pub returns-in-Ok : goal.returns-in-Ok
returns-in-Ok g c = c.answer_line.ensures c.args.text.now c.requires c.in-Ok.ensures.found

pub returns-in-Err : goal.returns-in-Err
returns-in-Err g c = (
  Outcome.unreadable,
  unheard g.D.Holder.bytes g.D.Holder.may_leave g.D.Holder.can_fail g.D.Holder.fault_count c.args.self.now c.args.text.now (λ readable session shows. c.in-Err.ensures.none.1 session shows),
  c.send_unreadable.ensures,
)
