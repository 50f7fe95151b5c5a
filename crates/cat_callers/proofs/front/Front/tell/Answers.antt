use Rattle.std.proofs.Common.{◌∙◌, sym}
use Rattle.cat_threads.specs.cat_commands.cat_protocol.lines.Line.{said_of}
use Rattle.cat_threads.specs.cat_commands.cat_protocol.replies.Reply.{reply_of}
use Rattle.cat_callers.specs.Told.{serves}
use Rattle.cat_callers.proofs.Telling.{rights_after}
use Rattle.cat_callers.proofs.front.Front.tell.Goals as goal

pub returns-clause-own : goal.returns-clause-own
returns-clause-own g c = c.told_by.ensures.same ∙ c.requires.own ∙ sym c.told_by.ensures.seen.same

pub returns-clause-rights : goal.returns-clause-rights
returns-clause-rights g c =
    rights_after (g.S.Holder.bytes c.args.shelf.now) g.J.Naming.from (serves g.D.Holder.bytes g.J.Naming.from) (said_of c.args.command) c.args.me.now c.args.holdings.now c.told_by.new.me c.told_by.new.holdings
    (reply_of c.told_by.result) c.requires.own c.requires.rights c.told_by.ensures.seen c.told_by.ensures.told

pub returns-clause-seen : goal.returns-clause-seen
returns-clause-seen g c = c.told_by.ensures.seen

pub returns-clause-told : goal.returns-clause-told
returns-clause-told g c = c.told_by.ensures.told
