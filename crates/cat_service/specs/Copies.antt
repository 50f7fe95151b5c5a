-- The law of backups: a copy of the files that a kept commit needs opens at it.
use Rattle.std.specs.Prelude.{◌≡◌, ◌≢◌, ℕ, true, List, Some, None}
use Rattle.std.specs.List.{AllByRecursion}
use Rattle.cat_model.specs.CommitFile.{CommitFile, commit_needs}
use Rattle.cat_model.specs.Files.{Name}
use Rattle.cat_model.specs.Run.{Run, commits, committed_at, is_kept, text_under, writes}
use Rattle.cat_model.specs.Table.{Opened, table}
use Rattle.cat_directory.specs.declared.name.FileName.{FileName}
use Rattle.cat_ledger_laws.specs.lines.ReadLaws.{kept_under}
use Rattle.cat_ledger_laws.specs.lines.RunLaws.{Stands}
use Rattle.cat_commands.specs.cat_ledger_state.startup.Newest.{IsNewestCommit}
use Rattle.cat_ledger_laws.specs.shape.Shapes.{Shape}
use Rattle.cat_ledger_laws.specs.shape.Ties.{ToldFiles, file_of}
use Rattle.cat_service.specs.Opening.{BeginsAtCommit}

-- one directory tells of the files of these names what the other tells
abbrev pub HasCopies : ToldFiles → List Name → ToldFiles → Type 0
HasCopies told names copy = AllByRecursion (λ q. copy (file_of q) ≡ told (file_of q)) names

-- the directory tells of each of its files
abbrev pub TellsEach : ToldFiles → Type 0
TellsEach told = (q : FileName) → told q ≢ None

-- it begins with the run's table at the commit's token, which is the number of writes that were accepted before the COMMIT, with that
-- token, and with the commit's generation and text
pub record BeginsAtTable (from : Opened) (run : Run) (commit : CommitFile) (begun : Opened) : Type 0 where
  pub fields : begun.start.schema ≡ commit.schema
  pub records : begun.start.records ≡ table from.start (writes run) commit.token
  pub token : begun.start.token ≡ commit.token
  pub reaches : committed_at from run commit.generation ≡ Some begun.start.token
  pub commit_is : begun.commit ≡ Some (record { generation = commit.generation; text = text_under (commits from run) commit.generation })

-- Whatever run led here, and however a directory is opened that has a copy of the files which a kept commit needs, and no newer commit:
-- it begins with the run's table at that commit.
abbrev pub CopiesOpenAlike : Type 0
CopiesOpenAlike =
    (told copy : ToldFiles) (s : Shape) (from : Opened) (run : Run) (g : ℕ) (commit : CommitFile) (begun : Opened)
    → Stands told s from run → is_kept from run g ≡ true → kept_under s.commits g ≡ Some commit
    → HasCopies told (commit_needs commit) copy → TellsEach copy → IsNewestCommit copy g → BeginsAtCommit copy s.schema begun
    → BeginsAtTable from run commit begun
