-- What is found of a directory.
use Rattle.std.specs.Prelude.{ℕ, ◌≡◌, true, List, [], Option, Some, None, All, Contains, map}
use Rattle.cat_directory.specs.declared.name.FileName.{FileName}
use Rattle.cat_directory.specs.declared.name.FileName.TheVariants as file
use Rattle.cat_directory.specs.Devices.{Lists}
use Rattle.cat_ledger_laws.specs.shape.Ties.{ToldFiles}
use Rattle.cat_commits.specs.reading.Numbers.{IsNewest}
use Rattle.cat_check.specs.declared.report.Report.{Report}
use Rattle.cat_check.specs.declared.checked.Checked.{Checked}
use Rattle.cat_check.specs.Judged.{IsJudged}
use Rattle.cat_check.specs.Below.{AreOlder}
use Rattle.cat_check.specs.Unread.{is_any_unread}

-- the newest commit of these names, if there is one, is judged
abbrev pub IsNewestReport : ToldFiles → Type 0 → List FileName → Option Report → Type 0
IsNewestReport told can_fail names None = (g : ℕ) → Contains names (file.Commit g) → ⊥
IsNewestReport told can_fail names (Some r) = IsNewest names r.generation × IsJudged told can_fail r.generation r.verdict

-- These are the names of the directory's files: its newest commit is judged, and each older one, the newer first. What is said
-- of one is of its generation. Where the own file of one couldn't be read, no file is told as one that no commit names.
pub record IsChecked (told : ToldFiles) (can_fail : Type 0) (checked : Checked) : Type 0 where
  pub names : List FileName
  pub listed : Lists told names
  pub newest : IsNewestReport told can_fail names checked.newest
  pub older : AreOlder names (map (λ (r : Report). r.generation) checked.older.items)
  pub judged : All (λ r. IsJudged told can_fail r.generation r.verdict) checked.older.items
  pub known : is_any_unread checked.newest checked.older.items ≡ true → checked.unnamed.items ≡ []
