use Rattle.std.proofs.Common.{sym, subst}
use Rattle.cat_model.specs.Lines.{Said}
use Rattle.cat_model.specs.Text.{Text}
use Rattle.cat_threads.specs.cat_commands.cat_protocol.replies.Reply.{reply_of}
use Rattle.cat_callers.specs.Told.{ToldCommit, serves}
use Rattle.cat_callers.proofs.front.Front.commit.Goals as goal

pub returns-in-Err : goal.returns-in-Err
returns-in-Err g c = ToldCommit.wrong c.in-Err.refusal c.in-Err.ensures.err

pub returns-in_default-from_str : goal.returns-in_default-from_str
returns-in_default-from_str g c = ToldCommit.stopped

pub returns : goal.returns
returns g c =
    ToldCommit.served (reply_of c.told.result) c.in_default.ensures.ok
    (subst (λ (t : Text). serves g.D.Holder.bytes g.J.Naming.from (Said.commit t) (reply_of c.told.result)) c.in-Ok.ensures.ok c.told.ensures)
