-- Files that are to be written, and in which order they come to last.
use Rattle.std.specs.Prelude.{◌≡◌, ◌⊎◌, true, false, List, map, All, Some}
use Rattle.cat_model.specs.Text.{Text}
use Rattle.cat_model.specs.Files.{Name}
use Rattle.cat_directory.specs.declared.name.FileName.{FileName}
use Rattle.cat_directory.specs.Devices.{FileContent, NoMore, IsSettled, OrTorn, told_after, file_written}
use Rattle.cat_directory.specs.Names.{name_of}
use Rattle.cat_ledger_laws.specs.model.Users.{has_name}
use Rattle.cat_ledger_laws.specs.shape.Ties.{ToldFiles}

-- a file that is to be written: its name, and its bytes
pub record NewBytes : Type 0 where
  pub name : FileName
  pub bytes : Text

-- the names of files
abbrev pub names_of : List NewBytes → List Name
names_of files = map (λ (f : NewBytes). name_of f.name) files

-- the file is told with its bytes, where any is told of it
abbrev pub IsWritten : ToldFiles → ToldFiles → NewBytes → Type 0
IsWritten told told' f = told' f.name ≡ told_after (file_written f.bytes) (told f.name)

-- what a crash may leave of files
abbrev pub CrashLeaves : Type 1
CrashLeaves = FileName → FileContent → Type 0

-- a crash may leave no more of any file but those of these names
abbrev pub NoMoreBut : List Name → CrashLeaves → CrashLeaves → Type 0
NoMoreBut names left left' = (q : FileName) → has_name (name_of q) names ≡ false → NoMore (left q) (left' q)

-- the files of these names would outlast a loss of power
abbrev pub AreSettled : List Name → ToldFiles → CrashLeaves → Type 0
AreSettled names told left = (q : FileName) → has_name (name_of q) names ≡ true → IsSettled (told q) (left q)

-- the file is told as it was, and a crash may leave no more of it
pub record IsUntouched (q : FileName) (told told' : ToldFiles) (left left' : CrashLeaves) : Type 0 where
  pub told_same : told' q ≡ told q
  pub left_same : NoMore (left q) (left' q)

-- the file is untouched until those of these names would outlast a loss of power
abbrev pub ComesLast : FileName → List Name → ToldFiles → ToldFiles → CrashLeaves → CrashLeaves → Type 0
ComesLast q names told told' left left' = IsUntouched q told told' left left' ⊎ AreSettled names told' left'

-- the file is untouched until these files are told with their bytes
abbrev pub ComesBehind : FileName → List NewBytes → ToldFiles → ToldFiles → CrashLeaves → CrashLeaves → Type 0
ComesBehind q files told told' left left' = IsUntouched q told told' left left' ⊎ All (IsWritten told told') files

-- Where the file was told, a crash may leave of it what it could have left, or a torn one, as it comes to have these bytes.
abbrev pub OnlyTorn : FileName → Text → ToldFiles → CrashLeaves → CrashLeaves → Type 0
OnlyTorn q bytes told left left' = (now : FileContent) → told q ≡ Some now → OrTorn bytes (left q) (left' q)
