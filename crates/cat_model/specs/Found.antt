-- What is found of a call's catalogue afterwards: after a crash, or when the folder is opened again.
use Rattle.std.specs.Prelude.{◌≡◌, ℕ, ◌<◌, List, [], ◌∷◌, filter_map, Some, None, Ok}
use Rattle.cat_model.specs.Run.{Run, commits, committed_at, newest_commit, text_under, writes}
use Rattle.cat_model.specs.Promised.{IsRefusedCommit}
use Rattle.cat_model.specs.Served.{exchange}
use Rattle.cat_model.specs.Table.{CommitText, Opened, table}
use Rattle.cat_model.specs.Talk.{HeldAsk, IsRead, IsTalk, Pair}
use Rattle.cat_model.specs.Text.{Text}
use Rattle.cat_model.specs.Heard.{Json}
use Rattle.cat_model.specs.Files.{Name}
use Rattle.cat_model.specs.Told.{DirectoryKind, FileContent, MayBeLeft, TellsAlways, ToldByName}
use Rattle.cat_model.specs.Opens.{BeginsFrom}
use Rattle.cat_model.specs.Serving.{IsServedIn}
use Rattle.cat_model.specs.Calls.{Agree, IsCall}

-- the device tells just these files
abbrev pub TellsJust : ToldByName → (Name → FileContent) → Type 0
TellsJust told image = (q : Name) → told q ≡ Some (image q)

-- It is found at the run's newest commit: the one that was answered last, or else was opened. It has the run's text of that commit; its
-- token is the number of writes that were accepted before that COMMIT; and its table is the run's at that token.
pub record FindsNewest (from : Opened) (run : Run) (found : Opened) : Type 0 where
  pub generation : ℕ
  pub newest : newest_commit from run ≡ Some generation
  pub commit : found.commit ≡ Some (record { generation = generation; text = text_under (commits from run) generation })
  pub reaches : committed_at from run generation ≡ Some found.start.token
  pub records : found.start.records ≡ table from.start (writes run) found.start.token

-- It is found at a commit that is none of the run: its generation is above that of the run's newest one, if there is one. It is that of a
-- COMMIT that was refused, but not for its text, with none answered OK after it: it has that COMMIT's text; its token is the number of writes
-- that were accepted before it; and its table is the run's at that token.
pub record FindsRefused (from : Opened) (run : Run) (found : Opened) : Type 0 where
  pub commit : CommitText
  pub there : found.commit ≡ Some commit
  pub above : (g : ℕ) → newest_commit from run ≡ Some g → g < commit.generation
  pub tried : IsRefusedCommit from run commit.text found.start.token found.start.records

-- nothing is found, and nothing was committed
pub record FindsNothing (from : Opened) (run : Run) (found : Opened) : Type 0 where
  pub none : newest_commit from run ≡ None
  pub start : (found.start.records ≡ []) × (found.start.token ≡ 0)
  pub commit : found.commit ≡ None

-- what is found
pub data FindsAfterwards (from : Opened) (run : Run) (found : Opened) : Type 0 where
  newest : FindsNewest from run found → FindsAfterwards from run found
  refused : FindsRefused from run found → FindsAfterwards from run found
  none : FindsNothing from run found → FindsAfterwards from run found

-- Whatever a crash leaves of the files of a call that always tells of them: however a directory with these files is opened, it finds the
-- newest commit of the call's run; or that of a later COMMIT, which was refused, with its text, its token and their table; or, where there is
-- none, nothing.
abbrev pub CallsAreFound : Json → {D E : Type 0} → DirectoryKind D → DirectoryKind E → Type 0
CallsAreFound json {D} {E} kind kind₂ =
    TellsAlways kind
    → (device left : D) (first : Text) (lines : List Text) (output : Text) (s : IsServedIn json kind device left first lines output)
    → (image : Name → FileContent) → MayBeLeft (kind.may_leave left) image
    → (device₂ : E) (first₂ : Text) (found : Opened) → TellsJust (kind₂.bytes device₂) image → BeginsFrom json (kind₂.bytes device₂) first₂ (Ok found)
    → FindsAfterwards s.from (filter_map exchange s.fitting) found

-- For every two calls, the second of which found the newest commit of the first, under one schema: a read under the token that the second
-- opened with, which is what its first reply tells, has the same reply in both, for sessions that hold it.
abbrev pub ReadsAgreeAfterwards : Json → {D E : Type 0} → DirectoryKind D → DirectoryKind E → Type 0
ReadsAgreeAfterwards json {D} {E} kind₁ kind₂ =
    (device₁ left₁ : D) (device₂ left₂ : E) (first₁ first₂ : Text) (lines₁ lines₂ : List Text) (output₁ output₂ : Text)
    → (one : IsCall json kind₁ device₁ left₁ first₁ lines₁ output₁)
    → (two : IsCall json kind₂ device₂ left₂ first₂ lines₂ output₂)
    → FindsNewest one.served.from (filter_map exchange one.served.fitting) two.served.from
    → one.served.from.start.schema ≡ two.served.from.start.schema
    → (talk₁ talk₂ : List Pair) → IsTalk (first₁ ∷ lines₁) output₁ talk₁ → IsTalk (first₂ ∷ lines₂) output₂ talk₂
    → (s₁ s₂ : ℕ) (text reply₁ reply₂ : Text)
    → (read : IsRead two.served.from.start.token text)
    → HeldAsk talk₁ two.served.from.start.token s₁ text reply₁
    → HeldAsk talk₂ two.served.from.start.token s₂ text reply₂
    → Agree (TellsAlways kind₁) (TellsAlways kind₂) read.said s₁ s₂ reply₁ reply₂
