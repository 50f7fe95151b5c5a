-- The laws of refusals that change nothing: they come before anything is done.
use Rattle.std.specs.Prelude.{◌≡◌, ◌≢◌, ℕ, ◌<◌, ◌≤◌, Option, Some, None, Ok, Err}
use Rattle.cat_model.specs.cat_base.declared.refusal.Refusal.{Refusal}
use Rattle.cat_model.specs.cat_base.declared.refusal.Refusal.TheVariants.{Line as NoForm, Spent, Full, NoCommit, NoSnapshot}
use Rattle.cat_model.specs.Answer.{query_refusal}
use Rattle.cat_model.specs.Limits.{last_number, snapshot_limit}
use Rattle.cat_model.specs.Run.{Chore, Command}
use Rattle.cat_model.specs.State.{snapshots_in}
use Rattle.cat_model.specs.Text.{Text}
use Rattle.cat_model.specs.Write.{Write}
use Rattle.cat_ledger_laws.specs.model.Plans.{MergePolicy}
use Rattle.cat_ledger_laws.specs.shape.Shapes.{Shape}
use Rattle.cat_ledger_laws.specs.shape.Steps.{newest_generation}
use Rattle.cat_ledger_laws.specs.shape.Ties.{ToldFiles}
use Rattle.cat_ledger_laws.specs.lines.RunLaws.{AnswersCarried}
use Rattle.cat_ledger_laws.specs.lines.LineLaws.{line_of, MayRefresh, NothingChanges}

-- the refusal that the command's own text deserves, whatever stands in memory
abbrev pub fault_of : Command → Option Refusal
fault_of Command.formless = Some NoForm
fault_of (Command.put (Err e)) = Some e
fault_of (Command.delete (Err e)) = Some e
fault_of (Command.delete_where (Err e)) = Some e
fault_of (Command.commit (Err e)) = Some e
fault_of (Command.read t asked) = query_refusal asked
fault_of _ = None

abbrev pub FaultsAnswer : Type 0
FaultsAnswer = (policy : MergePolicy) (told told' : ToldFiles) (s new : Shape) (session : ℕ) (c : Command) (e : Refusal)
    → fault_of c ≡ Some e → NothingChanges told s told' new → AnswersCarried policy told s (line_of session c) (Err e) told' new

-- the command of a write
abbrev pub command_of : Write → Command
command_of (Write.put i) = Command.put (Ok i)
command_of (Write.delete id) = Command.delete (Ok id)
command_of (Write.delete_where q) = Command.delete_where (Ok q)

-- a write is refused where no number is left,
abbrev pub SpentWritesAnswer : Type 0
SpentWritesAnswer = (policy : MergePolicy) (told told' : ToldFiles) (s new : Shape) (session : ℕ) (w : Write)
    → last_number ≤ s.count → NothingChanges told s told' new → AnswersCarried policy told s (line_of session (command_of w)) (Err Spent) told' new

-- and a COMMIT where no generation is left;
abbrev pub SpentCommitsAnswer : Type 0
SpentCommitsAnswer = (policy : MergePolicy) (told told' : ToldFiles) (s new : Shape) (session : ℕ) (text : Text)
    → last_number < s.next_generation → NothingChanges told s told' new
    → AnswersCarried policy told s (line_of session (Command.commit (Ok text))) (Err Spent) told' new

-- a REFRESH where no view of now stands, all are held, and no more may stand;
abbrev pub FullRefreshesAnswer : Type 0
FullRefreshesAnswer = (policy : MergePolicy) (told told' : ToldFiles) (s new : Shape) (session : ℕ)
    → (MayRefresh s → ⊥) → NothingChanges told s told' new
    → AnswersCarried policy told s (line_of session Command.refresh) (Err Full) told' new

-- a SNAP where there is no commit,
abbrev pub CommitlessSnapsAnswer : Type 0
CommitlessSnapsAnswer = (policy : MergePolicy) (told told' : ToldFiles) (s new : Shape) (session : ℕ)
    → newest_generation s.commits ≡ None → NothingChanges told s told' new
    → AnswersCarried policy told s (line_of session Command.snapshot) (Err NoCommit) told' new

-- or the newest one has as many snapshots as it may;
abbrev pub SpentSnapsAnswer : Type 0
SpentSnapsAnswer = (policy : MergePolicy) (told told' : ToldFiles) (s new : Shape) (session g : ℕ)
    → newest_generation s.commits ≡ Some g → snapshot_limit ≤ snapshots_in s.taken g → NothingChanges told s told' new
    → AnswersCarried policy told s (line_of session Command.snapshot) (Err Spent) told' new

-- an UNSNAP of a commit without snapshots;
abbrev pub SnaplessUnsnapsAnswer : Type 0
SnaplessUnsnapsAnswer = (policy : MergePolicy) (told told' : ToldFiles) (s new : Shape) (session g : ℕ)
    → snapshots_in s.taken g ≡ 0 → NothingChanges told s told' new
    → AnswersCarried policy told s (line_of session (Command.release_snapshot g)) (Err NoSnapshot) told' new

-- and maintenance that any other session than 0 asks for.
abbrev pub ForeignChoresAnswer : Type 0
ForeignChoresAnswer = (policy : MergePolicy) (told told' : ToldFiles) (s new : Shape) (session : ℕ) (c : Chore)
    → session ≢ 0 → NothingChanges told s told' new → AnswersCarried policy told s (line_of session (Command.chore c)) (Err NoForm) told' new
