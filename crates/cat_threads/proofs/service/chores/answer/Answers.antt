use Rattle.std.proofs.Common.{◌≡◌, refl, sym, ap, ◌∙◌, subst, inl, inr}
use Rattle.cat_model.specs.Lines.{Said}
use Rattle.cat_model.specs.Run.{Reply}
use Rattle.cat_ledger_laws.specs.shape.Ties.{ToldFiles}
use Rattle.cat_commands.specs.cat_ledger.Answering.{AnswersSaid, number_reply}
use Rattle.cat_commands.specs.cat_ledger.Ledgers.{LedgerOnDevice}
use Rattle.cat_commands.specs.cat_protocol.replies.Reply.{reply_of}
use Rattle.cat_commands.specs.ledger.Chores.{chore_of}
use Rattle.cat_threads.specs.declared.service.chores.Chore.{Chore}
use Rattle.cat_threads.specs.service.Chores.{said_by}
use Rattle.cat_threads.proofs.service.chores.answer.Goals as goal
use Rattle.cat_threads.proofs.service.chores.answer.Goals.{in-Force, in-Merge, in-Stat, in-Sweep}

-- the reply to what is said, where the chore is the one that says it, and the reply that one
so_told : {D : Type 0} (bytes : D → ToldFiles) (old new : LedgerOnDevice D) (a b : Chore) (r told : Reply)
    → a ≡ b → r ≡ told → AnswersSaid bytes 0 (said_by b) old told new → AnswersSaid bytes 0 (said_by a) old r new
so_told bytes old new a b r told is same answers =
    subst (λ (k : Chore). AnswersSaid bytes 0 (said_by k) old r new) (sym is) (subst (λ (x : Reply). AnswersSaid bytes 0 (said_by b) old x new) (sym same) answers)

pub returns-clause-answers : goal.returns-clause-answers
returns-clause-answers g c =
    let upkeep = c.match-chore.upkeep in
    let said : said_by c.args.chore.now ≡ Said.chore (chore_of upkeep) =
    elim c.match-chore.branch [
      | in-Merge w ↦ ap said_by w.in-Merge.is ∙ sym (ap (λ k. Said.chore (chore_of k)) w.upkeep-is)
      | in-Force w ↦ ap said_by w.in-Force.is ∙ sym (ap (λ k. Said.chore (chore_of k)) w.upkeep-is)
      | in-Sweep w ↦ ap said_by w.in-Sweep.is ∙ sym (ap (λ k. Said.chore (chore_of k)) w.upkeep-is)
      | in-Stat w ↦ ap said_by w.in-Stat.is ∙ sym (ap (λ k. Said.chore (chore_of k)) w.upkeep-is)
    ] in
    subst (λ (s : Said). AnswersSaid g.D.Holder.bytes 0 s c.args.ledger.now (reply_of c.maintain.result) c.maintain.new.ledger) (sym said) c.maintain.ensures.answers

pub returns-clause-sets : goal.returns-clause-sets
returns-clause-sets g c = inl (c.maintain.ensures.known, c.maintain.ensures.below)

pub returns-in-Warm-clause-answers : goal.returns-in-Warm-clause-answers
returns-in-Warm-clause-answers g c =
    subst (λ k. AnswersSaid g.D.Holder.bytes 0 (said_by k) c.args.ledger.now (reply_of c.warm.result) c.args.ledger.now) (sym c.in-Warm.is) c.warm.ensures.answers

pub returns-in-Warm-clause-sets : goal.returns-in-Warm-clause-sets
returns-in-Warm-clause-sets g c = inr (refl, c.warm.ensures.known, c.warm.ensures.below)

pub returns-in-Commit-clause-answers : goal.returns-in-Commit-clause-answers
returns-in-Commit-clause-answers g c =
    let old = c.args.ledger.now in
    let new = c.commit.new.self in
    so_told g.D.Holder.bytes old new c.args.chore.now _ (reply_of c.number_told.result) (number_reply c.commit.result) c.in-Commit.is c.number_told.ensures
    (subst (λ t. AnswersSaid g.D.Holder.bytes 0 (Said.commit t) old (number_reply c.commit.result) new) c.as_str.ensures (c.commit.ensures.answers 0))

pub returns-in-Commit-clause-sets : goal.returns-in-Commit-clause-sets
returns-in-Commit-clause-sets g c = inl (λ s k. k, λ n b. b)

pub returns-in-Note-clause-answers : goal.returns-in-Note-clause-answers
returns-in-Note-clause-answers g c =
    subst (λ k. AnswersSaid g.D.Holder.bytes 0 (said_by k) c.args.ledger.now (reply_of c.text_of_commit.result) c.args.ledger.now) (sym c.in-Note.is) (c.text_of_commit.ensures.answers 0)

pub returns-in-Note-clause-sets : goal.returns-in-Note-clause-sets
returns-in-Note-clause-sets g c = inl (λ s k. k, λ n b. b)

pub returns-in-Snap-clause-answers : goal.returns-in-Snap-clause-answers
returns-in-Snap-clause-answers g c =
    so_told g.D.Holder.bytes c.args.ledger.now c.snapshot.new.self c.args.chore.now _ (reply_of c.number_told-in-Snap.result) (number_reply c.snapshot.result) c.in-Snap.is c.number_told-in-Snap.ensures
    (c.snapshot.ensures.answers 0)

pub returns-in-Snap-clause-sets : goal.returns-in-Snap-clause-sets
returns-in-Snap-clause-sets g c = inl (λ s k. k, λ n b. b)

pub returns-in-Unsnap-clause-answers : goal.returns-in-Unsnap-clause-answers
returns-in-Unsnap-clause-answers g c =
    subst (λ k. AnswersSaid g.D.Holder.bytes 0 (said_by k) c.args.ledger.now (reply_of c.unsnapped.result) c.unsnapped.new.ledger) (sym c.in-Unsnap.is) c.unsnapped.ensures

pub returns-in-Unsnap-clause-sets : goal.returns-in-Unsnap-clause-sets
returns-in-Unsnap-clause-sets g c = inl (λ s k. k, λ n b. b)

pub returns-in-Prune-clause-answers : goal.returns-in-Prune-clause-answers
returns-in-Prune-clause-answers g c =
    so_told g.D.Holder.bytes c.args.ledger.now c.prune.new.self c.args.chore.now _ (reply_of c.number_told-in-Prune.result) (number_reply c.prune.result) c.in-Prune.is c.number_told-in-Prune.ensures
    (c.prune.ensures.answers 0)

pub returns-in-Prune-clause-sets : goal.returns-in-Prune-clause-sets
returns-in-Prune-clause-sets g c = inl (λ s k. k, λ n b. b)

pub returns-in-Files-clause-answers : goal.returns-in-Files-clause-answers
returns-in-Files-clause-answers g c =
    subst (λ k. AnswersSaid g.D.Holder.bytes 0 (said_by k) c.args.ledger.now (reply_of c.files_of_commit.result) c.args.ledger.now) (sym c.in-Files.is) (c.files_of_commit.ensures.answers 0)

pub returns-in-Files-clause-sets : goal.returns-in-Files-clause-sets
returns-in-Files-clause-sets g c = inl (λ s k. k, λ n b. b)
