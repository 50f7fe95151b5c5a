-- What serves all sessions leaves the one list as it is.
use Rattle.std.proofs.Common.{◌≡◌, ℕ, List, [], refl, sym, subst, ap}
use Rattle.cat_model.specs.Item.{Schema}
use Rattle.cat_model.specs.Lines.{Said}
use Rattle.cat_model.specs.Run.{Command, Reply}
use Rattle.cat_model.specs.Heard.{IsCommand, commit_text_of}
use Rattle.cat_items.specs.Reading.{json}
use Rattle.cat_commands.specs.cat_ledger.Answering.{AnswersCommand, AnswersSaid}
use Rattle.cat_commands.specs.cat_ledger.Ledgers.{LedgerOnDevice, device_in, policy_in, shape_in}
use Rattle.cat_commands.specs.cat_protocol.replies.Reply.{reply_of}
use Rattle.cat_ledger_laws.specs.shape.Ties.{ToldFiles}
use Rattle.cat_threads.specs.history.Rules.{Sight}
use Rattle.cat_threads.specs.sharing.Grounds.{Ground, Shares}
use Rattle.cat_threads.specs.sharing.Laws.{IsStill}
use Rattle.cat_threads.specs.service.Chores.{AnswersChore, IsToldOver, answer_told, chore_done, said_by}
use Rattle.cat_threads.specs.declared.service.chores.Chore.{Chore}
use Rattle.cat_threads.specs.declared.service.chores.Outcome.{Outcome}
use Rattle.cat_threads.proofs.sharing.Sharing.{history, pruned_share, still_share}

chore_still : (c : Rattle.cat_model.specs.Run.Chore) (r : Reply) → IsStill (Command.chore c) r
chore_still c r fitting e = (refl, λ held ts. refl)

commit_still : (text : Rattle.std.specs.Prelude.Result Rattle.cat_model.specs.Text.Text Rattle.cat_base.specs.declared.refusal.Refusal.Refusal) (r : Reply) → IsStill (Command.commit text) r
commit_still text r fitting e = (refl, λ held ts. refl)

note_still : (g : ℕ) (r : Reply) → IsStill (Command.text_of_commit g) r
note_still g r fitting e = (refl, λ held ts. refl)

snap_still : (r : Reply) → IsStill Command.snapshot r
snap_still r fitting e = (refl, λ held ts. refl)

unsnap_still : (g : ℕ) (r : Reply) → IsStill (Command.release_snapshot g) r
unsnap_still g r fitting e = (refl, λ held ts. refl)

files_still : (g : ℕ) (r : Reply) → IsStill (Command.files_of_commit g) r
files_still g r fitting e = (refl, λ held ts. refl)

module _ {D : Type 0} (bytes : D → ToldFiles) (old new : LedgerOnDevice D) (from : Ground) (sessions : List ℕ) (v : Sight) (r : Reply) where
  abbrev Before : Type 0
  Before = Shares (bytes (device_in old)) (shape_in old) from sessions v

  abbrev After : Type 0
  After = Shares (bytes (device_in new)) (shape_in new) from sessions v

  by_still : (c : Command) → IsStill c r → AnswersCommand bytes 0 c old r new → Before → After
  by_still c still answers a =
      still_share (policy_in old) (bytes (device_in old)) (bytes (device_in new)) (shape_in old) (shape_in new) from sessions v v 0 a c r still answers a.agrees.whole

  -- the command that was heard is this one
  by_heard : (c d : Command) → c ≡ d → IsStill d r → AnswersCommand bytes 0 c old r new → Before → After
  by_heard c d is still answers a = by_still d still (subst (λ x. AnswersCommand bytes 0 x old r new) is answers) a

  by_prune : (n : ℕ) → AnswersCommand bytes 0 (Command.prune n) old r new → Before → After
  by_prune n answers a =
      pruned_share (policy_in old) (bytes (device_in old)) (bytes (device_in new)) (shape_in old) (shape_in new) from sessions v v 0 a n r answers a.agrees.whole

  pub chores_share : (chore : Chore) → AnswersSaid bytes 0 (said_by chore) old r new → Before → After
  chores_share Chore.Merge x a = by_heard x.0 (Command.chore Rattle.cat_model.specs.Run.Chore.merge) x.1 (chore_still Rattle.cat_model.specs.Run.Chore.merge r) x.2 a
  chores_share Chore.Force x a = by_heard x.0 (Command.chore Rattle.cat_model.specs.Run.Chore.force) x.1 (chore_still Rattle.cat_model.specs.Run.Chore.force r) x.2 a
  chores_share Chore.Warm x a = by_heard x.0 (Command.chore Rattle.cat_model.specs.Run.Chore.warm) x.1 (chore_still Rattle.cat_model.specs.Run.Chore.warm r) x.2 a
  chores_share Chore.Sweep x a = by_heard x.0 (Command.chore Rattle.cat_model.specs.Run.Chore.sweep) x.1 (chore_still Rattle.cat_model.specs.Run.Chore.sweep r) x.2 a
  chores_share Chore.Stat x a = by_heard x.0 (Command.chore Rattle.cat_model.specs.Run.Chore.stat) x.1 (chore_still Rattle.cat_model.specs.Run.Chore.stat r) x.2 a
  chores_share (Chore.Commit text) x a = by_heard x.0 (Command.commit (commit_text_of text)) x.1 (commit_still (commit_text_of text) r) x.2 a
  chores_share (Chore.Note g) x a = by_heard x.0 (Command.text_of_commit g) x.1 (note_still g r) x.2 a
  chores_share Chore.Snap x a = by_heard x.0 Command.snapshot x.1 (snap_still r) x.2 a
  chores_share (Chore.Unsnap g) x a = by_heard x.0 (Command.release_snapshot g) x.1 (unsnap_still g r) x.2 a
  chores_share (Chore.Prune n) x a = by_prune n (subst (λ c. AnswersCommand bytes 0 c old r new) x.1 x.2) a
  chores_share (Chore.Files g) x a = by_heard x.0 (Command.files_of_commit g) x.1 (files_still g r) x.2 a

-- so an outcome tells what a ledger with the list's writes answered
pub told_over : {D : Type 0} (bytes : D → ToldFiles) (old new : LedgerOnDevice D) (from : Ground) (sessions : List ℕ) (v : Sight) (chore : Chore) (outcome : Outcome)
    → AnswersChore bytes chore old outcome new → Shares (bytes (device_in old)) (shape_in old) from sessions v → IsToldOver bytes from v.list outcome
told_over bytes old new from sessions v chore outcome its a =
    let r = reply_of (answer_told outcome) in record {
      old = old;
      new = new;
      before = history (bytes (device_in old)) (shape_in old) from sessions v a;
      answers = subst (λ c. AnswersSaid bytes 0 (said_by c) old r new) (sym its.same) its.answers;
      after = history (bytes (device_in new)) (shape_in new) from sessions v (chores_share bytes old new from sessions v r chore its.answers a);
    }
