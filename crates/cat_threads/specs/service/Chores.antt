-- What serves all sessions: what chores ask for, and how they are answered.
use Rattle.std.specs.Prelude.{◌≡◌, ℕ, List}
use Rattle.cat_base.specs.declared.refusal.Refusal.{Refusal}
use Rattle.std.specs.Prelude.{Result}
use Rattle.cat_model.specs.Lines.{Said}
use Rattle.cat_model.specs.Run as run
use Rattle.cat_commands.specs.cat_ledger.Answering.{AnswersSaid}
use Rattle.cat_commands.specs.cat_ledger.Ledgers.{LedgerOnDevice, device_in, shape_in}
use Rattle.cat_commands.specs.cat_protocol.declared.replies.answer.Answer.{Answer}
use Rattle.cat_commands.specs.cat_protocol.replies.Reply.{reply_of}
use Rattle.cat_ledger_laws.specs.shape.Ties.{ToldFiles}
use Rattle.cat_threads.specs.history.Entries.{LogEntry}
use Rattle.cat_threads.specs.sharing.Grounds.{Ground}
use Rattle.cat_threads.specs.sharing.ShareLaws.{IsHistoryOf}
use Rattle.cat_threads.specs.declared.service.chores.Chore.{Chore}
use Rattle.cat_threads.specs.declared.service.chores.Outcome.{Outcome}

-- the chore that an outcome is of
abbrev pub chore_done : Outcome → Chore
chore_done o = o.chore

-- and what it was answered
abbrev pub answer_told : Outcome → Result Answer Refusal
answer_told o = o.answer

-- the line that asks for a chore
abbrev pub said_by : Chore → Said
said_by Chore.Merge = Said.chore run.Chore.merge
said_by Chore.Force = Said.chore run.Chore.force
said_by Chore.Warm = Said.chore run.Chore.warm
said_by Chore.Sweep = Said.chore run.Chore.sweep
said_by Chore.Stat = Said.chore run.Chore.stat
said_by (Chore.Commit text) = Said.commit text
said_by (Chore.Note g) = Said.text_of_commit g
said_by Chore.Snap = Said.snapshot
said_by (Chore.Unsnap g) = Said.release_snapshot g
said_by (Chore.Prune n) = Said.prune n
said_by (Chore.Files g) = Said.files_of_commit g

-- The outcome has the chore, and what the ledger answers where session 0 asks for it. The first argument says what a device tells of its
-- files.
pub record AnswersChore {D : Type 0} (bytes : D → ToldFiles) (chore : Chore) (old : LedgerOnDevice D) (outcome : Outcome) (new : LedgerOnDevice D) : Type 0 where
  pub same : chore_done outcome ≡ chore
  pub answers : AnswersSaid bytes 0 (said_by chore) old (reply_of (answer_told outcome)) new

-- The outcome tells what a ledger answered that has the writes of this list, and has them still.
pub record IsToldOver {D : Type 0} (bytes : D → ToldFiles) (ground : Ground) (list : List LogEntry) (outcome : Outcome) : Type 0 where
  pub old : LedgerOnDevice D
  pub new : LedgerOnDevice D
  pub before : IsHistoryOf (bytes (device_in old)) (shape_in old) ground list
  pub answers : AnswersSaid bytes 0 (said_by (chore_done outcome)) old (reply_of (answer_told outcome)) new
  pub after : IsHistoryOf (bytes (device_in new)) (shape_in new) ground list
