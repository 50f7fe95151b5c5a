use Rattle.std.proofs.Common.{subst}
use Rattle.cat_model.specs.Lines.{reply_text}
use Rattle.cat_commands.specs.cat_protocol.lines.Line.{said_of}
use Rattle.cat_commands.specs.cat_protocol.replies.Reply.{reply_of}
use Rattle.cat_commands.specs.cat_protocol.sending.Out.{Sent}
use Rattle.cat_service.proofs.Hearing.{heard_as, told_to}
use Rattle.cat_service.proofs.world.World.answer_line.Goals as goal

pub returns : goal.returns
returns g c = λ text readable spells.
    let line = c.args.line.now in
    let reply = c.step-reply.result in
    let said = c.step-reply.ensures in (
      told_to line.session said.run.0 (reply_of reply.answer),
      heard_as g.D.Holder.bytes g.D.Holder.may_leave g.D.Holder.can_fail g.D.Holder.fault_count c.args.self.now c.step-reply.new.self text line.session (said_of line.command)
          (reply_of reply.answer) readable spells said.run said.schema said.names said.history said.cause said.numbers said.policy said.can said.sets c.newest_lasts.ensures.few,
      subst (λ s. Sent (g.W.Write.contents c.args.to.now) (g.W.Write.contents c.send_reply.new.to) c.send_reply.result (reply_text s (reply_of reply.answer)))
          said.session c.send_reply.ensures,
    )
