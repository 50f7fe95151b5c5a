use Rattle.std.proofs.Common.{refl, arith}
use Rattle.cat_model.specs.Lines.{Said}
use Rattle.cat_commands.specs.cat_protocol.replies.Reply.{reply_of}
use Rattle.cat_service.proofs.Kept.{does}
use Rattle.cat_commands.specs.cat_ledger.Ledgers.{device_in, shape_in}
use Rattle.cat_service.proofs.Wanted.{stopped, note_wants}
use Rattle.cat_service.proofs.world.World.answer_note.Goals as goal

pub returns : goal.returns
returns g c = rw (← c.self.view_is) (record {
  does = λ session.
      does g.D.Holder.bytes g.D.Holder.can_fail g.D.Holder.fault_count session (Said.text_of_commit c.args.generation) c.self.inside.ledger (reply_of c.text_of_commit.result) c.self.inside.ledger
      c.self.inside.filters c.self.invariant (record { spent = λ k. tt; device = λ k. tt; counted = λ k. tt; damaged = λ k. tt; reached = λ k. tt; quiet = λ k. refl; told = tt; swept = tt; rises = omega arith; stays = tt; keeps = tt; making = λ e k other. refl; still = λ e k other. refl }) refl (c.text_of_commit.ensures.answers session) (λ x. x) refl refl
      (λ k. note_wants (g.D.Holder.bytes (device_in c.self.inside.ledger)) (shape_in c.self.inside.ledger) session c.text_of_commit.result (stopped c.text_of_commit.result k) c.args.generation c.text_of_commit.ensures.due);
})
