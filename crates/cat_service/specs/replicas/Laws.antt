-- What replicas rest on: services that apply one log of writes. Nothing to believe: the laws are proved. They are our own.
use Rattle.std.specs.Prelude.{◌≡◌, ℕ, ◌≤◌, Bool, true, false, not, ◌&&◌, cond, List, ◌++◌, map, filter_map, All, Option, Some, None, Err}
use Rattle.cat_base.specs.declared.refusal.Refusal.TheVariants.{Spent, Device, Memory}
use Rattle.cat_model.specs.Write.{Write}
use Rattle.cat_model.specs.Table.{Start, Opened, table, writes_up_to}
use Rattle.cat_model.specs.Answer.{Read}
use Rattle.cat_model.specs.Run.{Command, Reply, Exchange, Run, IsRun, committed_at, writes, now}
use Rattle.cat_model.specs.Laws.{HeldRead}

-- ---- the log of a run

-- a PUT, a DEL or a DELW, also one whose item, id or query is faulty
abbrev pub asks_to_write : Command → Bool
asks_to_write (Command.put i) = true
asks_to_write (Command.delete id) = true
asks_to_write (Command.delete_where q) = true
asks_to_write _ = false

-- 16, 30 and 40, by which a write may be refused in one run and not in another
abbrev pub is_stop : Reply → Bool
is_stop (Err Spent) = true
is_stop (Err Device) = true
is_stop (Err Memory) = true
is_stop _ = false

-- a command with the reply to it, whatever session said it
pub record Logged : Type 0 where
  pub command : Command
  pub reply : Reply

-- what the exchange adds to the log: a command that asks for a write and was not stopped, with its reply
abbrev pub logged : Exchange → Option Logged
logged e =
    cond (asks_to_write e.line.command && not (is_stop e.reply)) (Some (record { command = e.line.command; reply = e.reply })) None

-- the log of a run: what was asked to be written and not stopped, in order, each command with its reply
abbrev pub log : Run → List Logged
log run = filter_map logged run

-- the commands of a log
abbrev pub commands : List Logged → List Command
commands log = map (λ x. x.command) log

-- ---- the laws

-- For every two runs, from where both have had one number of writes: where the commands of their logs from there on are one list, so are
-- the logs, that is, also their replies; and so are the accepted writes. Their tables, commits, sessions and other lines may differ.
abbrev pub LogsAreAppliedAlike : Type 0
LogsAreAppliedAlike =
    (one two : Opened) (past₁ past₂ run₁ run₂ : Run)
    → IsRun one (past₁ ++ run₁)
    → IsRun two (past₂ ++ run₂)
    → now one.start past₁ ≡ now two.start past₂
    → commands (log run₁) ≡ commands (log run₂)
    → (log run₁ ≡ log run₂) × (writes run₁ ≡ writes run₂)

-- The run goes on, as far as t, from what these writes make of the start: it is opened with the same schema and with their table at its
-- own token, and the writes up to t are those up to this token and then the accepted writes of the run.
pub record GoesOn (start : Start) (ws : List Write) (t : ℕ) (from : Opened) (run : Run) : Type 0 where
  pub schema : from.start.schema ≡ start.schema
  pub records : from.start.records ≡ table start ws from.start.token
  pub joined : writes_up_to start ws t ≡ writes_up_to start ws from.start.token ++ writes_up_to from.start (writes run) t

-- no record of the start is newer than its token
abbrev pub IsSeen : Start → Type 0
IsSeen start = All (λ r. r.number ≤ start.token) start.records

-- For every two runs, the second of which goes on from the writes of the first, equal reads under a held t have equal replies, whatever
-- other lines either run has, and whatever their commits.
abbrev pub HeldReadsAgreeAcrossOpenings : Type 0
HeldReadsAgreeAcrossOpenings =
    (one two : Opened) (run₁ run₂ : Run) (t : ℕ) (asked : Read) (reply₁ reply₂ : Reply)
    → IsSeen one.start
    → GoesOn one.start (writes run₁) t two run₂
    → HeldRead one run₁ t asked reply₁
    → HeldRead two run₂ t asked reply₂
    → reply₁ ≡ reply₂

-- So it is of every two runs that go on from the writes of one log, wherever in it each was opened.
abbrev pub HeldReadsAgreeOverOneLog : Type 0
HeldReadsAgreeOverOneLog =
    (start : Start) (ws : List Write) (one two : Opened) (run₁ run₂ : Run) (t : ℕ) (asked : Read) (reply₁ reply₂ : Reply)
    → IsSeen start
    → GoesOn start ws t one run₁
    → GoesOn start ws t two run₂
    → HeldRead one run₁ t asked reply₁
    → HeldRead two run₂ t asked reply₂
    → reply₁ ≡ reply₂

-- what a service begins with that opens a commit of the run: the run's table at its end, and how many writes it has there
abbrev pub start_behind : Start → Run → Start
start_behind start past =
    record { schema = start.schema; records = table start (writes past) (now start past); token = now start past }

-- So begins each service that opens a commit of the run under its schema: with the run's table at the number of writes that it had before
-- the COMMIT, and this number.
abbrev pub CommitsBeginReplicas : Type 0
CommitsBeginReplicas =
    (from : Opened) (run : Run) (g : ℕ) (found : Start)
    → committed_at from run g ≡ Some found.token
    → found.schema ≡ from.start.schema
    → found.records ≡ table from.start (writes run) found.token
    → (past rest : Run) × (run ≡ past ++ rest) × (found ≡ start_behind from.start past)

-- A replica, which is opened with what the first service had behind its past. As far as both were then asked to write the same, stops left
-- aside, equal reads under a held token have equal replies, whatever each was told later.
abbrev pub ReplicasAnswerAlike : Type 0
ReplicasAnswerAlike =
    (one two : Opened) (past run₁ run₂ later₁ later₂ : Run) (t : ℕ) (asked : Read) (reply₁ reply₂ : Reply)
    → IsSeen one.start
    → two.start ≡ start_behind one.start past
    → commands (log run₁) ≡ commands (log run₂)
    → t ≤ now one.start (past ++ run₁)
    → HeldRead one ((past ++ run₁) ++ later₁) t asked reply₁
    → HeldRead two (run₂ ++ later₂) t asked reply₂
    → reply₁ ≡ reply₂
