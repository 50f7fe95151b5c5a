use Rattle.std.proofs.Common.{sym, subst}
use Rattle.cat_model.specs.Lines.{Said}
use Rattle.cat_model.specs.Run.{Reply}
use Rattle.cat_commands.specs.cat_ledger.Answering.{AnswersSaid}
use Rattle.cat_threads.proofs.service.chores.unsnapped.Goals as goal

pub returns : goal.returns
returns g c =
    subst (λ (x : Reply). AnswersSaid g.D.Holder.bytes 0 (Said.release_snapshot c.args.generation) c.args.ledger.now x c.unsnapshot.new.self) (sym c.left_told.ensures)
    (c.unsnapshot.ensures.answers 0)
