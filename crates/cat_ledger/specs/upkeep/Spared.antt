-- The files of commits, which no step of a merge and no flush touches, and what a crash may leave of them.
use Rattle.std.specs.Prelude.{◌≡◌, ℕ}
use Rattle.cat_directory.specs.Devices.{FileContent, NoMore}
use Rattle.cat_directory.specs.declared.name.FileName.{FileName}
use Rattle.cat_directory.specs.declared.name.FileName.TheVariants as file
use Rattle.cat_ledger_laws.specs.shape.Ties.{ToldFiles}

-- A crash may leave of each commit's own file only what it could have left before. The arguments say what it could have left of a file,
-- and what it may leave now.
abbrev pub SparesCommits : (FileName → FileContent → Type 0) → (FileName → FileContent → Type 0) → Type 0
SparesCommits could can = (g : ℕ) → NoMore (could (file.Commit g)) (can (file.Commit g))

-- each commit's own file is told as it was
abbrev pub TouchesNoCommit : ToldFiles → ToldFiles → Type 0
TouchesNoCommit told told' = (g : ℕ) → told' (file.Commit g) ≡ told (file.Commit g)
