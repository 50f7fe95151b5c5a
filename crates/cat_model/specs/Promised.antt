-- What a directory holds when serving ends: what the run promises of its tokens and its commits, also after a crash.
use Rattle.std.specs.Prelude.{◌≡◌, ◌⊎◌, ℕ, ◌<◌, Bool, true, false, List, ◌∷◌, ◌++◌, Contains, Some, None, Ok, Err}
use Rattle.std.specs.List.{AllByRecursion}
use Rattle.cat_model.specs.Item.{Record, Schema}
use Rattle.cat_model.specs.Table.{Opened, table}
use Rattle.cat_model.specs.Run.{Command, Exchange, Reply, Run, commit_by, commits, committed_at, has, holds, is_kept, newest_commit, now, text_under, view_tokens, writes}
use Rattle.cat_model.specs.Files.{Name}
use Rattle.cat_model.specs.Text.{Text}
use Rattle.cat_model.specs.CommitFile.{CommitFile, commit_needs}
use Rattle.cat_model.specs.View.{IsView, Leaf, View}
use Rattle.cat_model.specs.Told.{DirectoryKind, FileContent, IsNewestTold, IsSettled, LeftByName, MayBeLeft, MayHave, TellsAlways, TellsNoCommit, ToldByName, told_of}
use Rattle.cat_model.specs.Restored.{HasSegment}
use Rattle.cat_model.specs.Opens.{HoldsCommit, HoldsRecords}

-- ---- what is held

-- The files of the view's segments may hold its rows, and the sources of its records, which are these.
pub record HoldsView (told : ToldByName) (view : View) (records : List Record) : Type 0 where
  pub is_view : IsView view
  pub segments : AllByRecursion (λ leaf. HasSegment (MayHave told) leaf.segment) view.leaves
  pub table : HoldsRecords told view records

-- so with a view under the token, which shows the run's table at it
abbrev pub HoldsToken : ToldByName → Opened → Run → ℕ → Type 0
HoldsToken told from run t =
    (leaves : List Leaf)
    × HoldsView told (record { schema = from.start.schema; leaves = leaves; token = t }) (table from.start (writes run) t)

-- The files may hold a commit of the generation, with the text that the run gave it. Its token is the number of writes that were accepted
-- before the COMMIT that made it, or of those that the opened one has; and its table is the run's at that token.
pub record HoldsGeneration (told : ToldByName) (from : Opened) (run : Run) (g : ℕ) : Type 0 where
  pub commit : CommitFile
  pub held : HoldsCommit told from.start.schema g commit (table from.start (writes run) commit.token)
  pub text : commit.text ≡ text_under (commits from run) g
  pub reaches : committed_at from run g ≡ Some commit.token

-- So it is with each token that is recorded, also by a session's hold, and with each commit that is kept, also by a snapshot.
pub record HoldsPromised (told : ToldByName) (from : Opened) (run : Run) : Type 0 where
  pub recorded : (t : ℕ) → has (view_tokens from.start run) t ≡ true → HoldsToken told from run t
  pub held : (session t : ℕ) → holds session t run ≡ true → HoldsToken told from run t
  pub kept : (g : ℕ) → is_kept from run g ≡ true → HoldsGeneration told from run g

-- ---- what a crash leaves

-- The newest commit, which was opened or was answered last, is held; and a crash at this moment leaves each file that it needs byte for byte
-- as it is told, and nothing else.
abbrev pub NewestIsSettled : ToldByName → LeftByName → Opened → Run → Type 0
NewestIsSettled told may_leave from run =
    (g : ℕ) → newest_commit from run ≡ Some g → (here : HoldsGeneration told from run g)
    × ((q : Name) → Contains (commit_needs here.commit) q → IsSettled (told q) (may_leave q))

-- what serving leaves of a directory
pub record LeavesPromised {D : Type 0} (kind : DirectoryKind D) (left : D) (from : Opened) (run : Run) : Type 0 where
  pub stand : HoldsPromised (kind.bytes left) from run
  pub outlasts : TellsAlways kind → NewestIsSettled (kind.bytes left) (kind.may_leave left) from run

-- a COMMIT was refused whose text a commit may have
abbrev pub refuses_commit : Command → Reply → Bool
refuses_commit (Command.commit (Ok text)) (Err e) = true
refuses_commit _ _ = false

-- A COMMIT of the run was refused, but not for its text, and none was answered OK after it. It has this text, the token is the number of writes
-- that were accepted before it, and the records are the run's table at that token.
pub record IsRefusedCommit (from : Opened) (run : Run) (text : Text) (token : ℕ) (records : List Record) : Type 0 where
  pub past : Run
  pub here : Exchange
  pub later : Run
  pub split : run ≡ past ++ here ∷ later
  pub asked : here.line.command ≡ Command.commit (Ok text)
  pub refused : refuses_commit here.line.command here.reply ≡ true
  pub none : AllByRecursion (λ x. commit_by x.line.command x.reply ≡ None) later
  pub reaches : token ≡ now from.start past
  pub shown : records ≡ table from.start (writes run) token

-- What is found of the run after a crash. The newest commit that is found is the run's newest; or, whatever commit and table are held there,
-- they are those of a COMMIT that was refused, with none answered OK after it. One is found where the run has one; and once the files of
-- commits past the run's newest are taken away, and its own is left, that one is found.
pub record SurvivesCrash (may_leave : LeftByName) (from : Opened) (run : Run) : Type 0 where
  pub found : (image : Name → FileContent) (g : ℕ) → MayBeLeft may_leave image → IsNewestTold (told_of image) g
      → (newest_commit from run ≡ Some g)
      ⊎ ((schema : Schema) (commit : CommitFile) (records : List Record) → HoldsCommit (told_of image) schema g commit records
      → IsRefusedCommit from run commit.text commit.token records)
  pub lost : (image : Name → FileContent) → MayBeLeft may_leave image → TellsNoCommit (told_of image) → newest_commit from run ≡ None
  pub mended : (g : ℕ) → newest_commit from run ≡ Some g → (image mended : Name → FileContent) → MayBeLeft may_leave image
      → mended (Name.commit g) ≡ image (Name.commit g) → ((h : ℕ) → g < h → mended (Name.commit h) ≡ None) → IsNewestTold (told_of mended) g
