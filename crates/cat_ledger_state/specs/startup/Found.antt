-- What the names of a directory tell.
use Rattle.std.specs.Prelude.{◌≡◌, ℕ, ◌+◌, ◌≤◌, List, Option, Contains, MatchOption}
use Rattle.cat_model.specs.Files.{Name}
use Rattle.cat_model.specs.Limits.{last_number}
use Rattle.cat_directory.specs.declared.name.FileName.{FileName}
use Rattle.cat_directory.specs.declared.name.FileName.TheVariants as file
use Rattle.cat_directory.specs.Devices.{Lists}
use Rattle.cat_lifetimes.specs.refs.Counts.{names_in}
use Rattle.cat_ledger_laws.specs.model.Users.{Used, users_of, has_name, is_known}
use Rattle.cat_ledger_laws.specs.shape.Ties.{ToldFiles}
use Rattle.cat_commits.specs.reading.Numbers.{AreNext, IsNewest}

-- These are the names of the directory's files: just they are known, and none has a user. The numbers that come next are n and g. This is the
-- generation of the newest commit, if there is one.
pub record TellsNames (told : ToldFiles) (users : List Used) (n g : ℕ) (newest : Option ℕ) : Type 0 where
  pub names : List FileName
  pub listed : Lists told names
  pub unused : (q : Name) → users_of users q ≡ 0
  pub known : (q : Name) → is_known users q ≡ has_name q (names_in names)
  pub next : AreNext names n g
  pub left : (n ≤ last_number + 1) × (g ≤ last_number + 1)
  pub among : MatchOption newest ((h : ℕ) → Contains names (file.Commit h) → ⊥) (IsNewest names)
