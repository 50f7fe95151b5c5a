use Rattle.std.proofs.Common.{◌≡◌, ℕ, Option, None, Some, ap, refl, subst, sym}
use Rattle.cat_ledger_laws.specs.shape.Ties.{ToldFiles}
use Rattle.cat_model.specs.Lines.{Said}
use Rattle.cat_model.specs.Run.{Reply}
use Rattle.cat_threads.specs.cat_commands.cat_protocol.declared.lines.command.Command.{Command}
use Rattle.cat_threads.specs.cat_commands.cat_protocol.declared.lines.command.Command.TheVariants as command
use Rattle.cat_threads.specs.cat_commands.cat_protocol.lines.Line.{said_of}
use Rattle.cat_threads.specs.cat_commands.cat_protocol.replies.Reply.{reply_of}
use Rattle.cat_threads.specs.service.Passes.{Idle, Seen}
use Rattle.cat_threads.specs.sharing.Grounds.{Ground}
use Rattle.cat_callers.specs.Needs.{NeedsNoRight}
use Rattle.cat_callers.specs.Sessions.{Kept}
use Rattle.cat_callers.specs.Told.{Tells, ToldGet, ToldNames, ToldOpen, serves}
use Rattle.cat_callers.proofs.Commands.{so_told}
use Rattle.cat_callers.proofs.Telling.{follows_itself}
use Rattle.cat_callers.proofs.front.Front.told_by.Goals as goal

-- an OPEN, with a token or without
opened : (told : ToldFiles) (from : Ground) (to : Said → Reply → Type 0) (v : Seen) (k : Kept) (w : Seen) (l : Kept) (r : Reply) (asked : Option ℕ)
    → Idle v w → ToldOpen from asked v w k.rights l.rights r → Tells told from to (said_of (command.Open asked)) v k w l r
opened told from to v k w l r None idle is = (idle, is)
opened told from to v k w l r (Some t) idle is = (idle, is)

pub returns-in-Open-clause-told : goal.returns-in-Open-clause-told
returns-in-Open-clause-told g c =
    so_told (g.S.Holder.bytes c.args.shelf.now) g.J.Naming.from (serves g.D.Holder.bytes g.J.Naming.from) c.args.me.now c.args.holdings.now c.open.new.me c.open.new.holdings (reply_of c.open.result) _ _ c.in-Open.is
    (opened (g.S.Holder.bytes c.args.shelf.now) g.J.Naming.from (serves g.D.Holder.bytes g.J.Naming.from) c.args.me.now c.args.holdings.now c.open.new.me c.open.new.holdings (reply_of c.open.result) c.in-Open.token c.open.ensures.idle c.open.ensures.told)

pub returns-in-Close-clause-told : goal.returns-in-Close-clause-told
returns-in-Close-clause-told g c =
    so_told (g.S.Holder.bytes c.args.shelf.now) g.J.Naming.from (serves g.D.Holder.bytes g.J.Naming.from) c.args.me.now c.args.holdings.now c.args.me.now c.close.new.holdings (reply_of c.close.result) _ _ c.in-Close.is
    (refl, c.close.ensures.told)

pub returns-in-Find-clause-told : goal.returns-in-Find-clause-told
returns-in-Find-clause-told g c =
    so_told (g.S.Holder.bytes c.args.shelf.now) g.J.Naming.from (serves g.D.Holder.bytes g.J.Naming.from) c.args.me.now c.args.holdings.now c.find.new.me c.args.holdings.now (reply_of c.find.result) _ _ c.in-Find.is
    ((c.find.ensures.idle, refl), c.find.ensures.told)

pub returns-in-Facets-clause-told : goal.returns-in-Facets-clause-told
returns-in-Facets-clause-told g c =
    so_told (g.S.Holder.bytes c.args.shelf.now) g.J.Naming.from (serves g.D.Holder.bytes g.J.Naming.from) c.args.me.now c.args.holdings.now c.args.me.now c.count_facets.new.holdings (reply_of c.count_facets.result) _ _ c.in-Facets.is
    ((refl, ap (λ (k : Kept). k.rights) c.count_facets.ensures.same), c.count_facets.ensures.told c.args.me.now (sym c.requires.own) c.requires.rights)

pub returns-in-Get-clause-told : goal.returns-in-Get-clause-told
returns-in-Get-clause-told g c =
    so_told (g.S.Holder.bytes c.args.shelf.now) g.J.Naming.from (serves g.D.Holder.bytes g.J.Naming.from) c.args.me.now c.args.holdings.now c.args.me.now c.args.holdings.now (reply_of c.get.result) _ _ c.in-Get.is (
      (refl, refl),
      subst (λ (s : ℕ). ToldGet (g.S.Holder.bytes c.args.shelf.now) s c.args.holdings.now.rights c.in-Get.token c.in-Get.id.now (reply_of c.get.result)) c.requires.own c.get.ensures,
    )

pub returns-in-FilesOfToken-clause-told : goal.returns-in-FilesOfToken-clause-told
returns-in-FilesOfToken-clause-told g c =
    so_told (g.S.Holder.bytes c.args.shelf.now) g.J.Naming.from (serves g.D.Holder.bytes g.J.Naming.from) c.args.me.now c.args.holdings.now c.args.me.now c.args.holdings.now (reply_of c.files_of_token.result) _ _ c.in-FilesOfToken.is (
      (refl, refl),
      subst (λ (s : ℕ). ToldNames s c.args.holdings.now.rights c.in-FilesOfToken.token (reply_of c.files_of_token.result)) c.requires.own c.files_of_token.ensures,
    )

pub returns-in-Open-clause-same : goal.returns-in-Open-clause-same
returns-in-Open-clause-same g c = c.open.ensures.same

pub returns-in-Open-clause-seen : goal.returns-in-Open-clause-seen
returns-in-Open-clause-seen g c = c.open.ensures.seen

pub returns-in-Close-clause-same : goal.returns-in-Close-clause-same
returns-in-Close-clause-same g c = c.close.ensures.same

pub returns-in-Close-clause-seen : goal.returns-in-Close-clause-seen
returns-in-Close-clause-seen g c = follows_itself c.args.me.now

pub returns-in-Find-clause-same : goal.returns-in-Find-clause-same
returns-in-Find-clause-same g c = refl

pub returns-in-Find-clause-seen : goal.returns-in-Find-clause-seen
returns-in-Find-clause-seen g c = c.find.ensures.seen

pub returns-in-Facets-clause-same : goal.returns-in-Facets-clause-same
returns-in-Facets-clause-same g c = ap (λ (k : Kept). k.session) c.count_facets.ensures.same

pub returns-in-Facets-clause-seen : goal.returns-in-Facets-clause-seen
returns-in-Facets-clause-seen g c = follows_itself c.args.me.now

pub returns-in-Get-clause-same : goal.returns-in-Get-clause-same
returns-in-Get-clause-same g c = refl

pub returns-in-Get-clause-seen : goal.returns-in-Get-clause-seen
returns-in-Get-clause-seen g c = follows_itself c.args.me.now

pub returns-in-FilesOfToken-clause-same : goal.returns-in-FilesOfToken-clause-same
returns-in-FilesOfToken-clause-same g c = refl

pub returns-in-FilesOfToken-clause-seen : goal.returns-in-FilesOfToken-clause-seen
returns-in-FilesOfToken-clause-seen g c = follows_itself c.args.me.now

-- what is left needs no right
pub told_without-requires : goal.told_without-requires
told_without-requires g c = left c.args.command refl
  where
    left : (a : Command) → c.args.command ≡ a → NeedsNoRight a
    left command.NoForm is = tt
    left (command.Put text) is = tt
    left (command.Delete id) is = tt
    left (command.DeleteWhere text) is = tt
    left command.Refresh is = tt
    left (command.Open token) is = absurd (c.in_default.not-Open token is)
    left (command.Close token) is = absurd (c.in_default.not-Close token is)
    left (command.Find find) is = absurd (c.in_default.not-Find find is)
    left (command.Facets facets) is = absurd (c.in_default.not-Facets facets is)
    left (command.Get token id) is = absurd (c.in_default.not-Get token id is)
    left (command.FilesOfToken token) is = absurd (c.in_default.not-FilesOfToken token is)
    left (command.FilesOfCommit generation) is = tt
    left (command.Commit text) is = tt
    left (command.Note generation) is = tt
    left command.Snapshot is = tt
    left (command.Unsnapshot generation) is = tt
    left (command.Prune n) is = tt
    left command.Merge is = tt
    left command.Force is = tt
    left command.Warm is = tt
    left command.Sweep is = tt
    left command.Stat is = tt

pub returns-in_default-clause-told : goal.returns-in_default-clause-told
returns-in_default-clause-told g c = c.told_without.ensures.told (g.S.Holder.bytes c.args.shelf.now) c.args.holdings.now

pub returns-in_default-clause-same : goal.returns-in_default-clause-same
returns-in_default-clause-same g c = refl

pub returns-in_default-clause-seen : goal.returns-in_default-clause-seen
returns-in_default-clause-seen g c = c.told_without.ensures.seen
