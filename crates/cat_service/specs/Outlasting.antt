-- What a crash leaves of the newest commit of a run.
use Rattle.std.specs.Prelude.{◌≡◌, ℕ, true, List, Some}
use Rattle.cat_model.specs.CommitFile.{CommitFile, commit_needs}
use Rattle.cat_model.specs.Run.{Run, commits, committed_at, newest_commit, text_under, writes}
use Rattle.cat_model.specs.Table.{Opened, table}
use Rattle.cat_directory.specs.Devices.{FileContent, IsSettled}
use Rattle.cat_directory.specs.Names.{name_of}
use Rattle.cat_directory.specs.declared.name.FileName.{FileName}
use Rattle.cat_commands.specs.cat_ledger.Lasting.{AlwaysTells}
use Rattle.cat_ledger_laws.specs.lines.NeededLaws.{CommitStands}
use Rattle.cat_ledger_laws.specs.lines.RunLaws.{Stands}
use Rattle.cat_ledger_laws.specs.model.Users.{Used, has_name}
use Rattle.cat_ledger_laws.specs.shape.Ties.{ToldFiles}
use Rattle.cat_service.specs.Worlds.{Service, device_of, shape_of_service}

-- The commit of this generation stands, with the text that the run gave it. Its token is the number of writes that were accepted before
-- the COMMIT that made it, or of those that the opened one has; its files have the run's table at it; and a crash at this moment leaves
-- each file that it needs byte for byte as the device tells of it, and nothing else.
pub record Outlasts (told : ToldFiles) (left : FileName → FileContent → Type 0) (users : List Used) (from : Opened) (run : Run) (g : ℕ) : Type 0 where
  pub commit : CommitFile
  pub generation : commit.generation ≡ g
  pub text : commit.text ≡ text_under (commits from run) g
  pub reaches : committed_at from run g ≡ Some commit.token
  pub stands : CommitStands told users commit (table from.start (writes run) commit.token)
  pub settled : (q : FileName) → has_name (name_of q) (commit_needs commit) ≡ true → IsSettled (told q) (left q)

-- so with the newest commit of the run: the one that was opened, or the last one that a COMMIT was answered
abbrev pub NewestOutlasts : ToldFiles → (FileName → FileContent → Type 0) → List Used → Opened → Run → Type 0
NewestOutlasts told left users from run = (g : ℕ) → newest_commit from run ≡ Some g → Outlasts told left users from run g

-- So it is whatever run led here, on devices that always tell of their files. The first two arguments say what a device tells, and what a
-- crash may leave.
abbrev pub OutlastsCrash : {D : Type 0} → (D → ToldFiles) → (D → FileName → FileContent → Type 0) → Service D → Type 0
OutlastsCrash bytes left w =
    AlwaysTells bytes → (from : Opened) (run : Run) → Stands (bytes (device_of w)) (shape_of_service w) from run
    → NewestOutlasts (bytes (device_of w)) (left (device_of w)) (shape_of_service w).users from run
