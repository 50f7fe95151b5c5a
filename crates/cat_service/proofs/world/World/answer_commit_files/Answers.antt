use Rattle.std.proofs.Common.{refl, arith}
use Rattle.cat_model.specs.Lines.{Said}
use Rattle.cat_commands.specs.cat_protocol.replies.Reply.{reply_of}
use Rattle.cat_commands.specs.cat_ledger.Ledgers.{device_in, shape_in}
use Rattle.cat_service.proofs.Kept.{does_telling}
use Rattle.cat_service.proofs.Names.{files_of_commit_told}
use Rattle.cat_service.proofs.Wanted.{stopped, commit_files_wants}
use Rattle.cat_service.proofs.world.World.answer_commit_files.Goals as goal

pub returns : goal.returns
returns g c = rw (← c.self.view_is) (record {
  does = λ session.
      does_telling g.D.Holder.bytes g.D.Holder.can_fail g.D.Holder.fault_count session (Said.files_of_commit c.args.generation) c.self.inside.ledger (reply_of c.files_of_commit.result) c.self.inside.ledger
      c.self.inside.filters c.self.invariant (record { spent = λ k. tt; device = λ k. tt; counted = λ k. tt; damaged = λ k. tt; reached = λ k. tt; quiet = λ k. refl; told = tt; swept = tt; rises = omega arith; stays = tt; keeps = tt; making = λ e k other. refl; still = λ e k other. refl }) refl (c.files_of_commit.ensures.answers session) (λ x. x) refl
      (files_of_commit_told (shape_in c.self.inside.ledger) c.args.generation c.files_of_commit.result c.files_of_commit.ensures.names)
      (λ k. commit_files_wants (g.D.Holder.bytes (device_in c.self.inside.ledger)) (shape_in c.self.inside.ledger) session c.files_of_commit.result (stopped c.files_of_commit.result k) c.args.generation c.files_of_commit.ensures.due);
})
