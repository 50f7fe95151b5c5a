use Rattle.std.proofs.Common.{refl, arith}
use Rattle.cat_model.specs.Lines.{Said}
use Rattle.cat_commands.specs.cat_protocol.replies.Reply.{reply_of}
use Rattle.cat_commands.specs.cat_ledger.Ledgers.{device_in, shape_in}
use Rattle.cat_service.proofs.Kept.{does_telling}
use Rattle.cat_service.proofs.Names.{files_of_token_told}
use Rattle.cat_service.proofs.Wanted.{stopped, token_files_wants}
use Rattle.cat_service.proofs.world.World.answer_view_files.Goals as goal

pub returns : goal.returns
returns g c = rw (← c.self.view_is) (record {
  does =
      does_telling g.D.Holder.bytes g.D.Holder.can_fail g.D.Holder.fault_count c.args.session (Said.files_of_token c.args.token) c.self.inside.ledger (reply_of c.files_of_token.result) c.self.inside.ledger
      c.self.inside.filters c.self.invariant (record { spent = λ k. tt; device = λ k. tt; counted = λ k. tt; damaged = λ k. tt; reached = λ k. tt; quiet = λ k. refl; told = tt; swept = tt; rises = omega arith; stays = tt; keeps = tt; making = λ e k other. refl; still = λ e k other. refl }) refl c.files_of_token.ensures.answers (λ x. x) refl
      (files_of_token_told (shape_in c.self.inside.ledger) c.args.token c.files_of_token.result c.files_of_token.ensures.names)
      (λ k. token_files_wants (g.D.Holder.bytes (device_in c.self.inside.ledger)) (shape_in c.self.inside.ledger) c.args.session c.files_of_token.result (stopped c.files_of_token.result k) c.args.token c.files_of_token.ensures.due);
})
