-- The laws of merges over shapes.
use Rattle.std.specs.Prelude.{◌≡◌, ◌≢◌, ℕ, ◌+◌, ◌<◌, ◌≤◌, List, [], ◌∷◌, ◌++◌, length, take, drop, Some, All, AllPairs}
use Rattle.std.specs.List.{flat_map, AllByRecursion}
use Rattle.cat_model.specs.Text.{Text}
use Rattle.cat_model.specs.Files.{Name, IsFileNumber}
use Rattle.cat_model.specs.Layout.{SpellsSegment}
use Rattle.cat_model.specs.Merged.{rows_of_all, records_kept, AreDeletedFrom}
use Rattle.cat_model.specs.View.{Leaf, live_rows}
use Rattle.cat_directory.specs.declared.name.FileName.TheVariants as file
use Rattle.cat_directory.specs.Devices.{TellsAlike, told_after, extended}
use Rattle.cat_ledger_laws.specs.model.Portions.{Merging}
use Rattle.cat_ledger_laws.specs.model.Ledger.{Ledger}
use Rattle.cat_ledger_laws.specs.model.Leaves.{AreLeaves}
use Rattle.cat_ledger_laws.specs.model.Stored.{joined_sources}
use Rattle.cat_ledger_laws.specs.model.Users.{users_of, times}
use Rattle.cat_ledger_laws.specs.model.Calls.{MergeBegun, Copied, Installed, Ended}
use Rattle.cat_ledger_laws.specs.shape.Shapes.{MergingShape, Shape, IsShape, merging_of, names_of_leaves}
use Rattle.cat_ledger_laws.specs.shape.Steps.{IsBegun, IsCopied, IsInstalled, IsEnded, passed_on, window_now, merged_or_none}
use Rattle.cat_ledger_laws.specs.shape.Ties.{ToldFiles, Makes, TouchesOnly, IsTold, TellsBytes}

-- a merge of the model that memory has so
abbrev pub OfMerge : MergingShape → (Merging → Ledger → Ledger → Type 0) → Ledger → Ledger → Type 0
OfMerge m call l l' = (mm : Merging) × (merging_of l.schema mm ≡ m) × call mm l l'

-- ---- what is made

-- the file for the sources of the new segment is begun
abbrev pub BegunMake : Type 0
BegunMake = (index k : ℕ) (s new : Shape) (told told' : ToldFiles) → IsBegun index k s new
    → TouchesOnly (Name.source s.next_segment ∷ []) told told' → IsTold (told' (file.Source s.next_segment)) (Some [])
    → Makes (MergeBegun index k) told s told' new

abbrev pub BegunKeep : Type 0
BegunKeep = (index k : ℕ) (s new : Shape) → IsBegun index k s new → IsShape s → IsShape new

-- the device tells of each input the bytes of its sources
abbrev pub TellsInputs : ToldFiles → (ℕ → Text) → List Leaf → Type 0
TellsInputs told sources inputs = AllByRecursion (λ leaf. told (file.Source leaf.segment.number) ≡ Some (Some (sources leaf.segment.number))) inputs

-- The bytes that were read of the inputs' files stand behind those that the merge had copied: where the device tells these files, the
-- sources of the rows that a step keeps. It tells of every file, or of none.
pub record CopiesOn (m : MergingShape) (told told' : ToldFiles) : Type 0 where
  pub bytes : Text
  pub alike : TellsAlike told
  pub others : TouchesOnly (Name.source m.number ∷ []) told told'
  pub extends : told' (file.Source m.number) ≡ told_after (extended bytes) (told (file.Source m.number))
  pub copied : (sources : ℕ → Text) → TellsInputs told sources m.inputs
      → joined_sources (records_kept sources m.inputs m.passed) ++ bytes
      ≡ joined_sources (records_kept sources m.inputs (passed_on m).passed)

abbrev pub CopiesMake : Type 0
CopiesMake = (m : MergingShape) (s new : Shape) (told told' : ToldFiles) → IsCopied m s new → CopiesOn m told told'
    → Makes (OfMerge m Copied) told s told' new

abbrev pub CopiesKeep : Type 0
CopiesKeep = (m : MergingShape) (s new : Shape) → IsCopied m s new → IsShape s → IsShape new

-- the file of the new segment is written, if there is one
abbrev pub InstallsMake : Type 0
InstallsMake = (m : MergingShape) (s new : Shape) (told told' : ToldFiles) → IsInstalled m s new
    → TouchesOnly (Name.segment m.number ∷ []) told told'
    → AllByRecursion (λ leaf. TellsBytes told' (file.Segment m.number) (λ bytes. SpellsSegment bytes leaf.segment)) (merged_or_none m s)
    → Makes (OfMerge m Installed) told s told' new

abbrev pub InstallsKeep : Type 0
InstallsKeep = (m : MergingShape) (s new : Shape) → IsInstalled m s new → IsShape s → IsShape new

-- a merge that ends has touched its own files at most
abbrev pub EndsMake : Type 0
EndsMake = (m : MergingShape) (s new : Shape) (told told' : ToldFiles) → IsEnded m s new
    → TouchesOnly (Name.source m.number ∷ Name.segment m.number ∷ []) told told' → Makes (OfMerge m Ended) told s told' new

abbrev pub EndsKeep : Type 0
EndsKeep = (m : MergingShape) (s new : Shape) → IsEnded m s new → IsShape s → IsShape new

-- ---- what a shape gives

-- a run of the current segments may be merged into one, but for the number of its rows
pub record MayBeMerged (s : Shape) (inputs : List Leaf) : Type 0 where
  pub schemas : All (λ leaf. leaf.segment.schema ≡ s.schema) inputs
  pub rising : AllPairs (λ a b. a.number < b.number) (rows_of_all inputs)
  pub distinct : AllPairs (λ a b. a.id ≢ b.id) (flat_map live_rows inputs)

abbrev pub WindowsMayBeMerged : Type 0
WindowsMayBeMerged = (s : Shape) (index k : ℕ) → IsShape s → index + k ≤ length s.leaves → MayBeMerged s (take k (drop index s.leaves))

-- What a merge in the making finds: its inputs stand in their window, where rows were deleted at most; the new segment may stand in
-- their place, with the live rows that they have now; its number is nobody's but its own.
pub record FindsWindow (m : MergingShape) (s : Shape) : Type 0 where
  pub some : 0 < length m.inputs
  pub within : m.index + length m.inputs ≤ length s.leaves
  pub deleted : AreDeletedFrom m.inputs (window_now m s.leaves)
  pub number : IsFileNumber m.number
  pub fresh : All (λ leaf. leaf.segment.number ≢ m.number) s.leaves
  pub live : flat_map live_rows (merged_or_none m s) ≡ flat_map live_rows (window_now m s.leaves)
  pub stands : AreLeaves (take m.index s.leaves ++ (merged_or_none m s ++ drop (m.index + length m.inputs) s.leaves))
  pub users : (q : Name) → times q (names_of_leaves (window_now m s.leaves) ++ Name.source m.number ∷ []) ≤ users_of s.users q

abbrev pub MergesFindTheirWindow : Type 0
MergesFindTheirWindow = (m : MergingShape) (s : Shape) → IsShape s → s.merging ≡ Some m → FindsWindow m s
