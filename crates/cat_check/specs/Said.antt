-- What the own file of a commit says, whatever the files of its segments are.
use Rattle.std.specs.Prelude.{ℕ}
use Rattle.cat_model.specs.Text.{Text}
use Rattle.cat_model.specs.Files.{Name}
use Rattle.cat_model.specs.CommitFile.{CommitFile, SpellsCommit}
use Rattle.cat_ledger_laws.specs.shape.Ties.{ToldFiles}
use Rattle.cat_commits.specs.reading.Told.{Tells}

-- the file of this generation's name says this commit, which may have another number than the name
pub record SaysCommit (holds : Name → Text → Type 0) (generation : ℕ) (c : CommitFile) : Type 0 where
  pub bytes : Text
  pub there : holds (Name.commit generation) bytes
  pub spelled : SpellsCommit bytes c

-- the file of this generation's name isn't told to say a commit: it is torn, or was never one
abbrev pub IsTorn : ToldFiles → ℕ → Type 0
IsTorn told generation = (c : CommitFile) → SaysCommit (Tells told) generation c → ⊥
