-- Which ledgers a shape in memory, with the device beside it, stands for. On a device that tells no bytes the files are what it
-- would hold if it returned what was written.
use Rattle.std.specs.Prelude.{◌≡◌, false, List, Some}
use Rattle.cat_model.specs.Text.{Text}
use Rattle.cat_model.specs.Files.{Name}
use Rattle.cat_directory.specs.declared.name.FileName.{FileName}
pub use Rattle.cat_model.specs.Told.{IsTold}
use Rattle.cat_directory.specs.Names.{name_of}
pub use Rattle.cat_directory.specs.Names.{file_of}
use Rattle.cat_directory.specs.Devices.{Told}
use Rattle.cat_ledger_laws.specs.model.Users.{has_name}
use Rattle.cat_ledger_laws.specs.model.Ledger.{Ledger, IsLedger}
use Rattle.cat_ledger_laws.specs.model.Stored.{FileBytes, AreStored}
use Rattle.cat_ledger_laws.specs.shape.Shapes.{Shape, shape_of}

-- what a device tells of its files
abbrev pub ToldFiles : Type 0
ToldFiles = FileName → Told

-- the files hold what the device tells of them
abbrev pub FilesAgree : ToldFiles → FileBytes → Type 0
FilesAgree told files = (q : Name) → IsTold (told (file_of q)) (files q)

-- The shape, with a device that tells this, carries the ledger over the files: memory has all of it but the sources of its segments,
-- which stand in these files; and the files are what the device tells, where it tells.
pub record Carries (told : ToldFiles) (s : Shape) (l : Ledger) (files : FileBytes) : Type 0 where
  pub shape : shape_of l ≡ s
  pub sound : IsLedger l
  pub stored : AreStored files l
  pub agrees : FilesAgree told files

-- whatever ledger is carried, what the call makes of it is carried afterwards
abbrev pub Makes : (Ledger → Ledger → Type 0) → ToldFiles → Shape → ToldFiles → Shape → Type 0
Makes call told old told' new =
    (l : Ledger) (files : FileBytes) → Carries told old l files → (l' : Ledger) × (files' : FileBytes) × call l l' × Carries told' new l' files'

-- no file but those of these names has changed
abbrev pub TouchesOnly : List Name → ToldFiles → ToldFiles → Type 0
TouchesOnly names told told' = (q : FileName) → has_name (name_of q) names ≡ false → told' q ≡ told q

-- nothing has changed
abbrev pub TouchesNothing : ToldFiles → ToldFiles → Type 0
TouchesNothing told told' = (q : FileName) → told' q ≡ told q

-- what is told of the file, if anything, are bytes that are so
abbrev pub TellsBytes : ToldFiles → FileName → (Text → Type 0) → Type 0
TellsBytes told q is_so = (bytes : Text) × IsTold (told q) (Some bytes) × is_so bytes
