-- Which commit of a directory is the newest, by what a device tells of its files.
use Rattle.std.specs.Prelude.{◌≡◌, ◌≢◌, ℕ, ◌≤◌, Some, None}
use Rattle.cat_model.specs.Text.{Text}
use Rattle.cat_directory.specs.declared.name.FileName.TheVariants as file
use Rattle.cat_ledger_laws.specs.shape.Ties.{ToldFiles}

-- the file of this commit may be there, and that of none of a greater number is told to be
pub record IsNewestCommit (told : ToldFiles) (generation : ℕ) : Type 0 where
  pub there : told (file.Commit generation) ≢ Some None
  pub greatest : (h : ℕ) (bytes : Text) → told (file.Commit h) ≡ Some (Some bytes) → h ≤ generation

-- no file of a commit is told to be there
abbrev pub HasNoCommit : ToldFiles → Type 0
HasNoCommit told = (h : ℕ) (bytes : Text) → told (file.Commit h) ≡ Some (Some bytes) → ⊥
