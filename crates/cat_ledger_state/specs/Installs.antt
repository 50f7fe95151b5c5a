-- The end of a merge: what it asks of what memory has, and what it makes of it and of the device.
use Rattle.std.specs.Prelude.{◌≡◌, ◌⊎◌, ℕ, ◌+◌, ◌<◌, ◌≤◌, ◌^◌, List, [], ◌∷◌, ◌++◌, length, take, drop, Option, Some, None}
use Rattle.std.specs.List.{flat_map, AllByRecursion}
use Rattle.cat_model.specs.Files.{Name}
use Rattle.cat_model.specs.Layout.{SpellsSegment}
use Rattle.cat_model.specs.Merged.{rows_of_all, AreDeletedFrom}
use Rattle.cat_model.specs.View.{Leaf, live_rows}
use Rattle.cat_directory.specs.declared.name.FileName.{FileName}
use Rattle.cat_ledger_laws.specs.model.Leaves.{AreLeaves}
use Rattle.cat_ledger_laws.specs.model.Users.{Used, users_of, times}
use Rattle.cat_ledger_laws.specs.shape.Shapes.{MergingShape, Shape, names_of_leaves}
use Rattle.cat_ledger_laws.specs.shape.Steps.{IsInstalled, IsEnded, Leaves, window_now, merged_or_none}
use Rattle.cat_ledger_laws.specs.shape.Ties.{ToldFiles, TellsBytes, TouchesOnly}
use Rattle.cat_merge.specs.files.Making.{InMaking, merged_leaves}

-- a merge is in the making that has passed all rows
abbrev pub HasAllPassed : Option MergingShape → Type 0
HasAllPassed None = ⊥
HasAllPassed (Some m) = m.passed ≡ length (rows_of_all m.inputs)

-- the file is one of those that the merge in the making writes
abbrev pub IsOfMerge : Option MergingShape → FileName → Type 0
IsOfMerge None q = ⊥
IsOfMerge (Some m) q = (q ≡ FileName.Segment m.number) ⊎ (q ≡ FileName.Source m.number)

-- the segment that the merge makes of what stands, if a row was kept
abbrev pub made_of : InMaking → List Leaf → List Leaf
made_of m leaves = merged_leaves m.shape.number m.schema m.shape.inputs (window_now m.shape leaves)

-- the list with these leaves in the place of so many from the index on
abbrev pub placed_in : List Leaf → ℕ → ℕ → List Leaf → List Leaf
placed_in leaves index count new = take index leaves ++ (new ++ drop (index + count) leaves)

-- the leaves may stand in the place of so many from the index on
pub record MayPlace (leaves : List Leaf) (index count : ℕ) (new : List Leaf) : Type 0 where
  pub some : 0 < count
  pub within : index + count ≤ length leaves
  pub rows : flat_map live_rows new ≡ flat_map live_rows (take count (drop index leaves))
  pub stands : AreLeaves (placed_in leaves index count new)

-- The merge has passed all rows; its inputs stand in the list, with rows deleted at most; its segment may stand in their place; and the
-- names of its files can have a user more, those of the inputs one less.
pub record MayInstall (m : InMaking) (leaves : List Leaf) (users : List Used) : Type 0 where
  pub passed : m.shape.passed ≡ length (rows_of_all m.shape.inputs)
  pub deleted : AreDeletedFrom m.shape.inputs (window_now m.shape leaves)
  pub place : MayPlace leaves m.shape.index (length m.shape.inputs) (made_of m leaves)
  pub fit : (q : Name) → users_of users q + times q (names_of_leaves (made_of m leaves)) < 2 ^ 64
  pub had : (q : Name) → times q (names_of_leaves (window_now m.shape leaves)) ≤ users_of users q

-- the merge is done, and the file of its segment is written
pub record HasInstalled (told : ToldFiles) (s : Shape) (told' : ToldFiles) (new : Shape) : Type 0 where
  pub merge : MergingShape
  pub installed : IsInstalled merge s new
  pub others : TouchesOnly (Name.segment merge.number ∷ []) told told'
  pub written : AllByRecursion (λ leaf. TellsBytes told' (FileName.Segment merge.number) (λ bytes. SpellsSegment bytes leaf.segment)) (merged_or_none merge s)

-- the merge in the making is over, with nothing made but names that nobody uses
pub record HasFailed (told : ToldFiles) (s : Shape) (told' : ToldFiles) (new : Shape) : Type 0 where
  pub merge : MergingShape
  pub mid : Shape
  pub ended : IsEnded merge s mid
  pub left : Leaves [] mid new
  pub others : TouchesOnly (Name.segment merge.number ∷ []) told told'
