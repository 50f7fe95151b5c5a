use Rattle.std.proofs.Common.{◌≡◌, refl}
use Rattle.std.specs.Prelude.{Err}
use Rattle.cat_base.specs.declared.refusal.Refusal.TheVariants.{Line as NoForm}
use Rattle.cat_ledger_laws.specs.shape.Ties.{ToldFiles}
use Rattle.cat_threads.specs.cat_commands.cat_protocol.declared.lines.command.Command.{Command}
use Rattle.cat_threads.specs.cat_commands.cat_protocol.declared.lines.command.Command.TheVariants as command
use Rattle.cat_threads.specs.cat_commands.cat_protocol.lines.Line.{said_of}
use Rattle.cat_threads.specs.cat_commands.cat_protocol.replies.Reply.{reply_of}
use Rattle.cat_callers.specs.Needs.{ServesAll}
use Rattle.cat_callers.specs.Sessions.{Kept}
use Rattle.cat_callers.specs.Told.{Tells, serves}
use Rattle.cat_callers.proofs.Commands.{so_told}
use Rattle.cat_callers.proofs.front.Front.told_to_all.Goals as goal

pub returns-in-Commit : goal.returns-in-Commit
returns-in-Commit g c = λ files kept.
    so_told files g.J.Naming.from (serves g.D.Holder.bytes g.J.Naming.from) c.args.me.now kept c.args.me.now kept (reply_of c.commit.result) _ _ c.in-Commit.is
    ((refl, refl), c.commit.ensures)

pub returns-in-FilesOfCommit : goal.returns-in-FilesOfCommit
returns-in-FilesOfCommit g c = λ files kept.
    so_told files g.J.Naming.from (serves g.D.Holder.bytes g.J.Naming.from) c.args.me.now kept c.args.me.now kept (reply_of c.told.result) _ _ c.in-FilesOfCommit.is
    ((refl, refl), c.told.ensures)

pub returns-in-Note : goal.returns-in-Note
returns-in-Note g c = λ files kept.
    so_told files g.J.Naming.from (serves g.D.Holder.bytes g.J.Naming.from) c.args.me.now kept c.args.me.now kept (reply_of c.told-in-Note.result) _ _ c.in-Note.is
    ((refl, refl), c.told-in-Note.ensures)

pub returns-in-Snapshot : goal.returns-in-Snapshot
returns-in-Snapshot g c = λ files kept.
    so_told files g.J.Naming.from (serves g.D.Holder.bytes g.J.Naming.from) c.args.me.now kept c.args.me.now kept (reply_of c.told-in-Snapshot.result) _ _ c.in-Snapshot.is
    ((refl, refl), c.told-in-Snapshot.ensures)

pub returns-in-Unsnapshot : goal.returns-in-Unsnapshot
returns-in-Unsnapshot g c = λ files kept.
    so_told files g.J.Naming.from (serves g.D.Holder.bytes g.J.Naming.from) c.args.me.now kept c.args.me.now kept (reply_of c.told-in-Unsnapshot.result) _ _ c.in-Unsnapshot.is
    ((refl, refl), c.told-in-Unsnapshot.ensures)

pub returns-in-Prune : goal.returns-in-Prune
returns-in-Prune g c = λ files kept.
    so_told files g.J.Naming.from (serves g.D.Holder.bytes g.J.Naming.from) c.args.me.now kept c.args.me.now kept (reply_of c.told-in-Prune.result) _ _ c.in-Prune.is
    ((refl, refl), c.told-in-Prune.ensures)

pub returns-in-Merge : goal.returns-in-Merge
returns-in-Merge g c = λ files kept.
    so_told files g.J.Naming.from (serves g.D.Holder.bytes g.J.Naming.from) c.args.me.now kept c.args.me.now kept (reply_of c.maintain.result) _ _ c.in-Merge.is
    ((refl, refl), record { others = c.maintain.ensures.others; mine = c.maintain.ensures.mine })

pub returns-in-Force : goal.returns-in-Force
returns-in-Force g c = λ files kept.
    so_told files g.J.Naming.from (serves g.D.Holder.bytes g.J.Naming.from) c.args.me.now kept c.args.me.now kept (reply_of c.maintain-in-Force.result) _ _ c.in-Force.is
    ((refl, refl), record { others = c.maintain-in-Force.ensures.others; mine = c.maintain-in-Force.ensures.mine })

pub returns-in-Warm : goal.returns-in-Warm
returns-in-Warm g c = λ files kept.
    so_told files g.J.Naming.from (serves g.D.Holder.bytes g.J.Naming.from) c.args.me.now kept c.args.me.now kept (reply_of c.maintain-in-Warm.result) _ _ c.in-Warm.is
    ((refl, refl), record { others = c.maintain-in-Warm.ensures.others; mine = c.maintain-in-Warm.ensures.mine })

pub returns-in-Sweep : goal.returns-in-Sweep
returns-in-Sweep g c = λ files kept.
    so_told files g.J.Naming.from (serves g.D.Holder.bytes g.J.Naming.from) c.args.me.now kept c.args.me.now kept (reply_of c.maintain-in-Sweep.result) _ _ c.in-Sweep.is
    ((refl, refl), record { others = c.maintain-in-Sweep.ensures.others; mine = c.maintain-in-Sweep.ensures.mine })

pub returns-in-Stat : goal.returns-in-Stat
returns-in-Stat g c = λ files kept.
    so_told files g.J.Naming.from (serves g.D.Holder.bytes g.J.Naming.from) c.args.me.now kept c.args.me.now kept (reply_of c.maintain-in-Stat.result) _ _ c.in-Stat.is
    ((refl, refl), record { others = c.maintain-in-Stat.ensures.others; mine = c.maintain-in-Stat.ensures.mine })

-- what is left has no form
pub returns-in_default : goal.returns-in_default
returns-in_default g c = λ files kept. left files kept c.args.command refl c.requires
  where
    left : (files : ToldFiles) (kept : Kept) (a : Command) → c.args.command ≡ a → ServesAll a
        → Tells files g.J.Naming.from (serves g.D.Holder.bytes g.J.Naming.from) (said_of a) c.args.me.now kept c.args.me.now kept (Err NoForm)
    left files kept command.NoForm is all = ((refl, refl), refl)
    left files kept (command.Put text) is all = absurd all
    left files kept (command.Delete id) is all = absurd all
    left files kept (command.DeleteWhere text) is all = absurd all
    left files kept command.Refresh is all = absurd all
    left files kept (command.Open token) is all = absurd all
    left files kept (command.Close token) is all = absurd all
    left files kept (command.Find find) is all = absurd all
    left files kept (command.Facets facets) is all = absurd all
    left files kept (command.Get token id) is all = absurd all
    left files kept (command.FilesOfToken token) is all = absurd all
    left files kept (command.FilesOfCommit generation) is all = absurd (c.in_default.not-FilesOfCommit generation is)
    left files kept (command.Commit text) is all = absurd (c.in_default.not-Commit text is)
    left files kept (command.Note generation) is all = absurd (c.in_default.not-Note generation is)
    left files kept command.Snapshot is all = absurd (c.in_default.not-Snapshot is)
    left files kept (command.Unsnapshot generation) is all = absurd (c.in_default.not-Unsnapshot generation is)
    left files kept (command.Prune n) is all = absurd (c.in_default.not-Prune n is)
    left files kept command.Merge is all = absurd (c.in_default.not-Merge is)
    left files kept command.Force is all = absurd (c.in_default.not-Force is)
    left files kept command.Warm is all = absurd (c.in_default.not-Warm is)
    left files kept command.Sweep is all = absurd (c.in_default.not-Sweep is)
    left files kept command.Stat is all = absurd (c.in_default.not-Stat is)
