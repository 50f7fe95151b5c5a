-- What is judged of a commit: what opening answers at it, under the fields that its own file says.
use Rattle.std.specs.Prelude.{ℕ}
use Rattle.cat_model.specs.Item.{Schema}
use Rattle.cat_ledger_laws.specs.model.Opening.{Restored, IsRestored}
use Rattle.cat_ledger_laws.specs.shape.Ties.{ToldFiles}
use Rattle.cat_ledger_laws.specs.shape.OpeningLaws.{MayHold}
use Rattle.cat_commits.specs.reading.Told.{Tells}
use Rattle.cat_check.specs.declared.verdict.Verdict.{Verdict}
use Rattle.cat_check.specs.declared.verdict.Verdict.TheVariants as verdict

-- the files may hold the commit, under its own fields, with its segments
pub record IsCommitWhole (told : ToldFiles) (generation : ℕ) : Type 0 where
  pub restored : Restored
  pub held : IsRestored (MayHold told) restored.commit.schema generation restored

-- the files that are told hold no such commit, under any fields
abbrev pub IsLost : ToldFiles → ℕ → Type 0
IsLost told generation = (schema : Schema) (r : Restored) → IsRestored (Tells told) schema generation r → ⊥

-- what a verdict says, where the device can fail or not
abbrev pub IsJudged : ToldFiles → Type 0 → ℕ → Verdict → Type 0
IsJudged told can_fail generation (verdict.Whole counts) = IsCommitWhole told generation
IsJudged told can_fail generation (verdict.Damaged faults) = IsLost told generation
IsJudged told can_fail generation verdict.Unread = can_fail
