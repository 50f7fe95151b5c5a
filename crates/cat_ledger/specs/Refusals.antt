-- What a refused call keeps of what memory has. `IsLeft` of the ledger's model says what any refused call may leave; these say which call
-- may leave which of it. And of which directories a step of a merge is told of damage.
use Rattle.std.specs.Prelude.{◌≡◌, Any, Option, Some, None}
use Rattle.cat_model.specs.View.{Leaf}
use Rattle.cat_directory.specs.declared.name.FileName.TheVariants as file
use Rattle.cat_ledger_laws.specs.shape.Shapes.{MergingShape, Shape}
use Rattle.cat_ledger_laws.specs.shape.Ties.{ToldFiles}
use Rattle.cat_ledger_state.specs.Cores.{StayKnown}

-- The merge in the making goes on, with what it has passed; and no file is forgotten that a sweep is to delete.
pub record KeepsMerge (s new : Shape) : Type 0 where
  pub merging : new.merging ≡ s.merging
  pub known : StayKnown s.users new.users

-- Nothing was flushed or merged: the same segments stand, with the same rows live, and what waited still waits. No file is forgotten
-- that a sweep is to delete.
pub record KeepsSegments (s new : Shape) : Type 0 where
  pub leaves : new.leaves ≡ s.leaves
  pub buffered : new.buffered ≡ s.buffered
  pub known : StayKnown s.users new.users

-- nothing is told of the file with the sources of the leaf's segment
abbrev pub IsUntold : ToldFiles → Leaf → Type 0
IsUntold told leaf = told (file.Source leaf.segment.number) ≡ None

-- A merge is in the making, and of the file with sources of one of the segments that it takes nothing is told.
abbrev pub HasUntoldInput : ToldFiles → Option MergingShape → Type 0
HasUntoldInput told None = ⊥
HasUntoldInput told (Some m) = Any (IsUntold told) m.inputs
