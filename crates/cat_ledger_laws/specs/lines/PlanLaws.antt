-- The laws of when segments are merged, over shapes.
use Rattle.std.specs.Prelude.{◌≡◌, ◌≢◌, ℕ, ◌+◌, ◌<◌, ◌≤◌, Bool, List, length, map, take, drop, Some, None, Ok}
use Rattle.cat_model.specs.Limits.{row_limit}
use Rattle.cat_model.specs.Merged.{rows_of_all}
use Rattle.cat_model.specs.Run.{Answer, Chore, Command, News}
use Rattle.cat_model.specs.View.{Leaf}
use Rattle.cat_model.specs.Window.{IsWindow}
use Rattle.cat_ledger_laws.specs.model.Calls.{MergeBegun, Copied, Installed}
use Rattle.cat_ledger_laws.specs.model.Ledger.{Ledger}
use Rattle.cat_ledger_laws.specs.model.Plans.{MergePolicy, MayBeForced}
use Rattle.cat_ledger_laws.specs.model.Replies.{Maintains}
use Rattle.cat_ledger_laws.specs.model.Stored.{FileBytes}
use Rattle.cat_ledger_laws.specs.shape.Shapes.{MergingShape, Shape}
use Rattle.cat_ledger_laws.specs.shape.Steps.{passed_on}
use Rattle.cat_ledger_laws.specs.shape.Ties.{Carries, ToldFiles, Makes, TouchesNothing}
use Rattle.cat_ledger_laws.specs.shape.MergeLaws.{OfMerge}
use Rattle.cat_ledger_laws.specs.lines.LineLaws.{line_of}
use Rattle.cat_ledger_laws.specs.lines.RunLaws.{AnswersCarried}

-- how many rows each leaf has, deleted ones counted, and which of them are live
abbrev pub sizes_in : List Leaf → List ℕ
sizes_in leaves = map (λ leaf. length leaf.segment.rows) leaves

abbrev pub live_sets_in : List Leaf → List (List Bool)
live_sets_in leaves = map (λ leaf. leaf.live) leaves

-- MERGE begins the merge of the window, where there is one,
abbrev pub MergesBegin : Type 0
MergesBegin =
    (policy : MergePolicy) (index : ℕ) (s new : Shape) (told told' : ToldFiles)
    → IsWindow policy.factor policy.least (sizes_in s.leaves) (Some index) → Makes (MergeBegun index policy.factor) told s told' new
    → Makes (Maintains policy Chore.merge (News.begun_merge policy.factor)) told s told' new

-- and has nothing to do where there is none, and no merge is in the making;
abbrev pub MergesRest : Type 0
MergesRest =
    (policy : MergePolicy) (s : Shape) (told told' : ToldFiles)
    → s.merging ≡ None → IsWindow policy.factor policy.least (sizes_in s.leaves) None → TouchesNothing told told'
    → Makes (Maintains policy Chore.merge News.idle) told s told' s

-- else it tells how many rows are passed,
abbrev pub MergesCopy : Type 0
MergesCopy =
    (policy : MergePolicy) (m : MergingShape) (s new : Shape) (told told' : ToldFiles) → Makes (OfMerge m Copied) told s told' new
    → Makes (Maintains policy Chore.merge (News.copied (passed_on m).passed)) told s told' new

-- or that the new segment stands.
abbrev pub MergesAreDone : Type 0
MergesAreDone =
    (policy : MergePolicy) (m : MergingShape) (s new : Shape) (told told' : ToldFiles) → Makes (OfMerge m Installed) told s told' new
    → Makes (Maintains policy Chore.merge News.done) told s told' new

-- FORCE begins a merge of all segments, where that is of some use,
abbrev pub ForcesBegin : Type 0
ForcesBegin =
    (policy : MergePolicy) (s new : Shape) (told told' : ToldFiles) → MayBeForced (sizes_in s.leaves) (live_sets_in s.leaves)
    → Makes (MergeBegun 0 (length s.leaves)) told s told' new → Makes (Maintains policy Chore.force (News.begun_merge (length s.leaves))) told s told' new

-- has nothing to do where it isn't, and no merge is in the making,
abbrev pub ForcesRest : Type 0
ForcesRest =
    (policy : MergePolicy) (s : Shape) (told told' : ToldFiles)
    → s.merging ≡ None → (MayBeForced (sizes_in s.leaves) (live_sets_in s.leaves) → ⊥) → TouchesNothing told told'
    → Makes (Maintains policy Chore.force News.idle) told s told' s

-- and is busy where one is.
abbrev pub ForcesWait : Type 0
ForcesWait =
    (policy : MergePolicy) (s : Shape) (told told' : ToldFiles) → s.merging ≢ None → TouchesNothing told told'
    → Makes (Maintains policy Chore.force News.busy) told s told' s

-- The leaves of a window stand in the list, and one segment can hold their rows.
abbrev pub WindowsFit : Type 0
WindowsFit =
    (policy : MergePolicy) (index : ℕ) (leaves : List Leaf) → IsWindow policy.factor policy.least (sizes_in leaves) (Some index)
    → (index + policy.factor ≤ length leaves) × (length (rows_of_all (take policy.factor (drop index leaves))) ≤ row_limit)

-- So it is with all of them, where that is of some use.
abbrev pub ForcedFit : Type 0
ForcedFit = (leaves : List Leaf) → MayBeForced (sizes_in leaves) (live_sets_in leaves)
    → length (rows_of_all (take (length leaves) (drop 0 leaves))) ≤ row_limit

-- ---- what is told is so

-- What MERGE tells is so of memory: it had nothing to do, began the merge of the window, passed more rows of the one in the making, or ended it.
abbrev pub TellsMerge : MergePolicy → Shape → News → Type 0
TellsMerge policy s News.idle = (s.merging ≡ None) × IsWindow policy.factor policy.least (sizes_in s.leaves) None
TellsMerge policy s (News.begun_merge k) =
    (s.merging ≡ None) × (k ≡ policy.factor) × (index : ℕ) × IsWindow policy.factor policy.least (sizes_in s.leaves) (Some index)
TellsMerge policy s (News.copied n) =
    (m : MergingShape) × (s.merging ≡ Some m) × (m.passed < length (rows_of_all m.inputs)) × (n ≡ (passed_on m).passed)
TellsMerge policy s News.done = (m : MergingShape) × (s.merging ≡ Some m) × (m.passed ≡ length (rows_of_all m.inputs))
TellsMerge policy s n = ⊥

-- And what FORCE tells: it had nothing to do, a merge is in the making, or it began that of all segments.
abbrev pub TellsForce : Shape → News → Type 0
TellsForce s News.idle = (s.merging ≡ None) × (MayBeForced (sizes_in s.leaves) (live_sets_in s.leaves) → ⊥)
TellsForce s News.busy = s.merging ≢ None
TellsForce s (News.begun_merge k) =
    (s.merging ≡ None) × (k ≡ length s.leaves) × MayBeForced (sizes_in s.leaves) (live_sets_in s.leaves)
TellsForce s n = ⊥

-- So it is with what answers their lines, where some ledger is carried.
abbrev pub MergesTell : Type 0
MergesTell =
    (policy : MergePolicy) (told told' : ToldFiles) (s new : Shape) (n : News) (l : Ledger) (files : FileBytes) → Carries told s l files
    → (AnswersCarried policy told s (line_of 0 (Command.chore Chore.merge)) (Ok (Answer.news n)) told' new → TellsMerge policy s n)
    × (AnswersCarried policy told s (line_of 0 (Command.chore Chore.force)) (Ok (Answer.news n)) told' new → TellsForce s n)
