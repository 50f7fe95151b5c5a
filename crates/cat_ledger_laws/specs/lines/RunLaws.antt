-- The laws that tie what memory and its device carry to runs of the service: what a call answers is a step of each run that led to it.
use Rattle.std.specs.Prelude.{◌≡◌, ◌≢◌, ℕ, List, [], ◌∷◌, ◌++◌, Some, None}
use Rattle.cat_model.specs.Item.{Schema}
use Rattle.cat_model.specs.Table.{Opened}
use Rattle.cat_model.specs.Run.{Line, Reply, Run, IsRun, Fits}
use Rattle.cat_model.specs.State.{StandsFor}
pub use Rattle.cat_model.specs.Serving.{ReplyLike}
pub use Rattle.cat_model.specs.Serving.{ReplyLike as AreAlike}
use Rattle.cat_directory.specs.declared.name.FileName.{FileName}
use Rattle.cat_ledger_laws.specs.model.Users.{Used}
use Rattle.cat_ledger_laws.specs.model.Plans.{MergePolicy}
use Rattle.cat_ledger_laws.specs.model.Ledger.{Ledger, state_of}
use Rattle.cat_ledger_laws.specs.model.Stored.{FileBytes}
use Rattle.cat_ledger_laws.specs.model.Replies.{Calls}
use Rattle.cat_ledger_laws.specs.model.Opening.{Restored, IsRestored}
use Rattle.cat_ledger_laws.specs.shape.Shapes.{Shape}
use Rattle.cat_ledger_laws.specs.shape.Ties.{ToldFiles, Carries}
use Rattle.cat_ledger_laws.specs.shape.OpeningLaws.{MayHold, opened_at, IsCountedAt, empty_at, IsCountedEmpty}

-- The reply is the one that fits, where the device tells its files. On a device that doesn't, a GET may show another text of that
-- length.
pub record IsShown (told : ToldFiles) (reply fitting : Reply) : Type 0 where
  pub alike : ReplyLike reply fitting
  pub same : ((q : FileName) → told q ≢ None) → reply ≡ fitting

-- Whatever ledger is carried, the line makes of it what is carried afterwards, with a reply that is shown so.
abbrev pub AnswersCarried : MergePolicy → ToldFiles → Shape → Line → Reply → ToldFiles → Shape → Type 0
AnswersCarried policy told old line reply told' new =
    (l : Ledger) (files : FileBytes) → Carries told old l files
    → (l' : Ledger) × (files' : FileBytes) × (fitting : Reply) × IsShown told reply fitting × Calls policy l line fitting l'
    × Carries told' new l' files'

-- what memory stands for, with a device that tells this: the run of some ledger that it carries
pub record Stands (told : ToldFiles) (s : Shape) (from : Opened) (run : Run) : Type 0 where
  pub ledger : Ledger
  pub files : FileBytes
  pub carries : Carries told s ledger files
  pub stands : StandsFor from run (state_of ledger)

-- Whatever run led here, some reply fits it that is shown so, and what is left stands for the longer run.
abbrev pub IsStep : ToldFiles → Shape → Line → Reply → ToldFiles → Shape → Type 0
IsStep told old line reply told' new =
    (from : Opened) (past : Run) → from.start.schema ≡ old.schema → IsRun from past → Stands told old from past
    → (fitting : Reply) × IsShown told reply fitting × Fits from past (record { line = line; reply = fitting })
    × Stands told' new from (past ++ record { line = line; reply = fitting } ∷ [])

-- What answers a line for every ledger is a step of every run.
abbrev pub AnswersAreSteps : Type 0
AnswersAreSteps =
    (policy : MergePolicy) (told told' : ToldFiles) (old new : Shape) (line : Line) (reply : Reply)
    → AnswersCarried policy told old line reply told' new → IsStep told old line reply told' new

-- Memory that was opened at a commit stands for a run that begins at that commit.
abbrev pub OpenedStand : Type 0
OpenedStand = (told : ToldFiles) (schema : Schema) (generation : ℕ) (r : Restored) (users : List Used) (n g : ℕ)
    → IsRestored (MayHold told) schema generation r → IsCountedAt schema r users n g
    → (from : Opened) × (from.start.schema ≡ schema) × (from.start.token ≡ r.commit.token)
    × (from.commit ≡ Some (record { generation = r.commit.generation; text = r.commit.text }))
    × Stands told (opened_at schema r users n g) from []

-- Memory without records stands for a run that begins without any.
abbrev pub EmptyStand : Type 0
EmptyStand = (told : ToldFiles) (schema : Schema) (users : List Used) (n g : ℕ) → IsCountedEmpty users n g
    → Stands told (empty_at schema users n g) (record { start = record { schema = schema; records = []; token = 0 }; commit = None }) []
