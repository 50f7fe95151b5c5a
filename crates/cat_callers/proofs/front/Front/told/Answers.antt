use Rattle.std.proofs.Common.{ap, sym}
use Rattle.cat_threads.specs.cat_commands.cat_protocol.replies.Reply.{reply_of}
use Rattle.cat_threads.specs.service.Chores.{said_by}
use Rattle.cat_callers.proofs.front.Front.told.Goals as goal

pub returns : goal.returns
returns g c = record {
  list = c.maintain.ensures.answered.0;
  outcome = c.maintain.result;
  over = c.maintain.ensures.answered.1;
  said_is = ap said_by c.maintain.ensures.chore;
  told_is = ap reply_of (sym c.into_answer.ensures);
}
