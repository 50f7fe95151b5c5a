-- The parts of a leaf, as they are read one after the other.
use Rattle.std.specs.Prelude.{◌≡◌, ℕ, ◌==◌, Bool, true, List, replicate, cond}
use Rattle.cat_model.specs.Text.{Text}
use Rattle.cat_model.specs.Item.{Schema}
use Rattle.cat_model.specs.Files.{Name}
use Rattle.cat_model.specs.CommitFile.{ListedSegment}
use Rattle.cat_model.specs.View.{Segment}
use Rattle.cat_ledger_laws.specs.model.Opening.{HasSegment, HasLiveFile}

-- the segment of the number, under the schema, stands in its file
pub record IsSegmentReadAs (holds : Name → Text → Type 0) (schema : Schema) (number : ℕ) (s : Segment) : Type 0 where
  pub numbered : s.number ≡ number
  pub fields : s.schema ≡ schema
  pub segment : HasSegment holds s

-- which of so many rows are live
abbrev pub HasLiveRows : (Name → Text → Type 0) → ListedSegment → ℕ → List Bool → Type 0
HasLiveRows holds x rows live = cond (x.file == 0) (live ≡ replicate rows true) (HasLiveFile holds x live)
