-- The laws of writes, flushes, refusals and sweeps over shapes: what a call makes of a shape and of what the device tells is what the
-- call of the model makes of each ledger that is carried.
use Rattle.std.specs.Prelude.{◌≡◌, ◌+◌, ◌<◌, ◌≤◌, true, List, [], ◌∷◌, ◌++◌, Some, All}
use Rattle.std.specs.List.{AllByRecursion}
use Rattle.cat_model.specs.Text.{Text}
use Rattle.cat_model.specs.Write.{Write}
use Rattle.cat_model.specs.Table.{without}
use Rattle.cat_model.specs.Limits.{last_number}
use Rattle.cat_model.specs.Files.{Name}
use Rattle.cat_model.specs.Layout.{SpellsSegment}
use Rattle.cat_directory.specs.declared.name.FileName.{FileName}
use Rattle.cat_directory.specs.declared.name.FileName.TheVariants as file
use Rattle.cat_directory.specs.Names.{name_of}
use Rattle.cat_ledger_laws.specs.model.Leaves.{AreLeaves, has_live_id}
use Rattle.cat_ledger_laws.specs.model.Users.{users_of}
use Rattle.cat_ledger_laws.specs.model.Ledger.{IsNew}
use Rattle.cat_ledger_laws.specs.model.Stored.{joined_sources}
use Rattle.cat_ledger_laws.specs.model.Calls.{wrote, Flushed, MayLeave}
use Rattle.cat_ledger_laws.specs.model.Laws.{PutsItem}
use Rattle.cat_ledger_laws.specs.shape.Shapes.{Shape, IsShape, names_of_leaves, flushed_leaf}
use Rattle.cat_ledger_laws.specs.shape.Steps.{with_write, IsFlushed, Leaves}
use Rattle.cat_ledger_laws.specs.shape.Ties.{ToldFiles, Makes, TouchesOnly, TouchesNothing, IsTold, TellsBytes}

-- ---- what is made

-- A write is one of the model.
abbrev pub WritesMake : Type 0
WritesMake = (s : Shape) (w : Write) (told told' : ToldFiles) → s.count < last_number → PutsItem s.schema w → TouchesNothing told told'
    → Makes (λ l l'. l' ≡ wrote l w) told s told' (with_write s w)

-- it keeps the shape one
abbrev pub WritesKeep : Type 0
WritesKeep = (s : Shape) (w : Write) → s.count < last_number → PutsItem s.schema w → IsShape s → IsShape (with_write s w)

-- the files of the new segment are written, and no other has changed
pub record WritesFlush (s : Shape) (told told' : ToldFiles) : Type 0 where
  pub others : TouchesOnly (names_of_leaves (flushed_leaf s ∷ [])) told told'
  pub segment : TellsBytes told' (file.Segment s.next_segment) (λ bytes. SpellsSegment bytes (flushed_leaf s).segment)
  pub source : IsTold (told' (file.Source s.next_segment)) (Some (joined_sources s.buffered))

abbrev pub FlushesMake : Type 0
FlushesMake = (s new : Shape) (told told' : ToldFiles) → IsFlushed s new → WritesFlush s told told' → Makes Flushed told s told' new

abbrev pub FlushesKeep : Type 0
FlushesKeep = (s new : Shape) → IsFlushed s new → IsShape s → IsShape new

-- what is refused leaves files that were begun under new numbers, and no other has changed
abbrev pub RefusalsMake : Type 0
RefusalsMake = (begun : List Name) (s new : Shape) (told told' : ToldFiles) → Leaves begun s new
    → AllByRecursion (IsNew s.next_segment s.next_generation) begun → TouchesOnly begun told told' → Makes (MayLeave begun) told s told' new

abbrev pub RefusalsKeep : Type 0
RefusalsKeep = (begun : List Name) (s new : Shape) → Leaves begun s new → IsShape s → IsShape new

-- a sweep leaves the files of names that somebody uses
abbrev pub SweepsMake : Type 0
SweepsMake = (s new : Shape) (told told' : ToldFiles) → Leaves [] s new
    → ((q : FileName) → 0 < users_of s.users (name_of q) → told' q ≡ told q) → Makes (MayLeave []) told s told' new

-- ---- what a shape gives

-- the segment that a flush makes may stand last
abbrev pub FlushedMayStand : Type 0
FlushedMayStand = (s : Shape) → IsShape s → AreLeaves (s.leaves ++ flushed_leaf s ∷ [])

-- the number of the next write is above those of all that waits, and at least 1
abbrev pub WritesAreNewest : Type 0
WritesAreNewest = (s : Shape) → IsShape s → All (λ r. r.number < s.count + 1) s.buffered

-- an id that a live row has doesn't wait too
abbrev pub IdsStandOnce : Type 0
IdsStandOnce = (s : Shape) (id : Text) → IsShape s → has_live_id id s.leaves ≡ true → without s.buffered (Write.delete id) ≡ s.buffered

-- the numbers that are taken next can be those of files, where some are left
abbrev pub NumbersMayBeTaken : Type 0
NumbersMayBeTaken = (s : Shape) → IsShape s → (0 < s.next_segment) × (0 < s.next_generation) × (s.count ≤ last_number)
