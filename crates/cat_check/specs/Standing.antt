-- How the newest commit of a directory stands: whether it is torn, over an older one that is whole.
use Rattle.std.specs.Prelude.{◌≡◌, ℕ, List, Contains}
use Rattle.cat_model.specs.CommitFile.{CommitFile}
use Rattle.cat_directory.specs.declared.name.FileName.{FileName}
use Rattle.cat_directory.specs.declared.name.FileName.TheVariants as file
use Rattle.cat_directory.specs.Devices.{FileContent, IsSettled, Lists, removed, told_after}
use Rattle.cat_ledger_laws.specs.shape.Ties.{ToldFiles}
use Rattle.cat_ledger_laws.specs.shape.OpeningLaws.{MayHold}
use Rattle.cat_commits.specs.reading.Numbers.{IsNewest}
use Rattle.cat_check.specs.declared.dropping.Standing.{Standing}
use Rattle.cat_check.specs.declared.dropping.Standing.TheVariants as standing
use Rattle.cat_check.specs.Said.{SaysCommit, IsTorn}
use Rattle.cat_check.specs.Judged.{IsCommitWhole, IsLost}
use Rattle.cat_check.specs.Below.{IsNextBelow, HasNoneBelow}

-- by the names of the directory's files
abbrev pub StandsSo : ToldFiles → List FileName → Standing → Type 0
StandsSo told names standing.Empty = (g : ℕ) → Contains names (file.Commit g) → ⊥
StandsSo told names (standing.Readable g) = IsNewest names g × ((c : CommitFile) × SaysCommit (MayHold told) g c)
StandsSo told names (standing.Alone g) = IsNewest names g × IsTorn told g × HasNoneBelow names g
StandsSo told names (standing.OverDamaged g h) = IsNewest names g × IsTorn told g × IsNextBelow names g h × IsLost told h
StandsSo told names (standing.OverWhole g h) = IsNewest names g × IsTorn told g × IsNextBelow names g h × IsCommitWhole told h

pub record IsStanding (told : ToldFiles) (s : Standing) : Type 0 where
  pub names : List FileName
  pub listed : Lists told names
  pub so : StandsSo told names s

-- it is the own file of a torn commit, which is the newest and stands over one that is whole
pub record IsDroppable (told : ToldFiles) (q : FileName) : Type 0 where
  pub torn : ℕ
  pub below : ℕ
  pub name : q ≡ file.Commit torn
  pub standing : IsStanding told (standing.OverWhole torn below)

-- of a torn commit over a whole one its file is gone for good; else no file has changed
abbrev pub IsDropped : ToldFiles → ToldFiles → (FileName → FileContent → Type 0) → Standing → Type 0
IsDropped told told' left (standing.OverWhole g h) =
    (told' (file.Commit g) ≡ told_after removed (told (file.Commit g)))
    × IsSettled (told_after removed (told (file.Commit g))) (left (file.Commit g))
IsDropped told told' left s = (q : FileName) → told' q ≡ told q
