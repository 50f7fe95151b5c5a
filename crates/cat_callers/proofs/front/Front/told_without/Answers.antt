use Rattle.std.proofs.Common.{◌≡◌, refl}
use Rattle.cat_threads.specs.cat_commands.cat_protocol.declared.lines.command.Command.{Command}
use Rattle.cat_threads.specs.cat_commands.cat_protocol.declared.lines.command.Command.TheVariants as command
use Rattle.cat_threads.specs.cat_commands.cat_protocol.replies.Reply.{reply_of}
use Rattle.cat_callers.specs.Needs.{NeedsNoRight, ServesAll}
use Rattle.cat_callers.specs.Told.{serves}
use Rattle.cat_callers.proofs.Commands.{so_told}
use Rattle.cat_callers.proofs.Telling.{follows_itself}
use Rattle.cat_callers.proofs.front.Front.told_without.Goals as goal

pub returns-in-Put-clause-told : goal.returns-in-Put-clause-told
returns-in-Put-clause-told g c = λ files kept.
    so_told files g.J.Naming.from (serves g.D.Holder.bytes g.J.Naming.from) c.args.me.now kept c.put.new.me kept (reply_of c.put.result) _ _ c.in-Put.is
    (refl, c.put.ensures.told)

pub returns-in-Put-clause-seen : goal.returns-in-Put-clause-seen
returns-in-Put-clause-seen g c = c.put.ensures.seen

pub returns-in-Delete-clause-told : goal.returns-in-Delete-clause-told
returns-in-Delete-clause-told g c = λ files kept. rw c.in-Delete.is assumption

pub returns-in-Delete-clause-seen : goal.returns-in-Delete-clause-seen
returns-in-Delete-clause-seen g c = c.delete.ensures.seen

pub returns-in-DeleteWhere-clause-told : goal.returns-in-DeleteWhere-clause-told
returns-in-DeleteWhere-clause-told g c = λ files kept.
    so_told files g.J.Naming.from (serves g.D.Holder.bytes g.J.Naming.from) c.args.me.now kept c.delete_where.new.me kept (reply_of c.delete_where.result) _ _ c.in-DeleteWhere.is
    (refl, c.delete_where.ensures.told)

pub returns-in-DeleteWhere-clause-seen : goal.returns-in-DeleteWhere-clause-seen
returns-in-DeleteWhere-clause-seen g c = c.delete_where.ensures.seen

pub returns-in-Refresh-clause-told : goal.returns-in-Refresh-clause-told
returns-in-Refresh-clause-told g c = λ files kept.
    so_told files g.J.Naming.from (serves g.D.Holder.bytes g.J.Naming.from) c.args.me.now kept c.refresh.new.me kept (reply_of c.refresh.result) _ _ c.in-Refresh.is
    ((c.refresh.ensures.idle, refl), c.refresh.ensures.told)

pub returns-in-Refresh-clause-seen : goal.returns-in-Refresh-clause-seen
returns-in-Refresh-clause-seen g c = c.refresh.ensures.seen

-- what is left serves all sessions
pub told_to_all-requires : goal.told_to_all-requires
told_to_all-requires g c = left c.args.command refl c.requires
  where
    left : (a : Command) → c.args.command ≡ a → NeedsNoRight a → ServesAll a
    left (command.Put text) is needs = absurd (c.in_default.not-Put text is)
    left (command.Delete id) is needs = absurd (c.in_default.not-Delete id is)
    left (command.DeleteWhere text) is needs = absurd (c.in_default.not-DeleteWhere text is)
    left command.Refresh is needs = absurd (c.in_default.not-Refresh is)
    left _ is needs = needs

pub returns-in_default-clause-told : goal.returns-in_default-clause-told
returns-in_default-clause-told g c = c.told_to_all.ensures

pub returns-in_default-clause-seen : goal.returns-in_default-clause-seen
returns-in_default-clause-seen g c = follows_itself c.args.me.now
