-- The ledger as memory has it: rows, which know the lengths of their sources, in place of records, and of commits what their
-- files say. Not to be believed, but to prove the ledger by.
use Rattle.std.specs.Prelude.{◌≡◌, ℕ, Bool, List, [], ◌∷◌, map, Option, Some, None}
use Rattle.std.specs.List.{flat_map}
use Rattle.cat_model.specs.Item.{Schema, Record}
use Rattle.cat_model.specs.Files.{Name}
use Rattle.cat_model.specs.CommitFile.{CommitFile, commit_needs}
use Rattle.cat_model.specs.State.{Hold, Taken}
use Rattle.cat_model.specs.View.{Leaf, View, needs}
use Rattle.cat_ledger_laws.specs.model.Portions.{Merging, leaf_of, view_of, all_live}
use Rattle.cat_ledger_laws.specs.model.Users.{Used}
use Rattle.cat_ledger_laws.specs.model.Ledger.{RecordedView, Listed, commit_file, Ledger, IsLedger}
use Rattle.cat_ledger_laws.specs.model.Calls.{newest_listed}

-- a segment of the newest commit: its number, its live set there, and the generation of its live file, 0 where it has none
pub record ListedLive : Type 0 where
  pub number : ℕ
  pub live : List Bool
  pub file : ℕ

-- a merge in the making: its number, the index of the first of its inputs in the list, the inputs as they were at its beginning,
-- and how many of their rows it has passed
pub record MergingShape : Type 0 where
  pub number : ℕ
  pub index : ℕ
  pub inputs : List Leaf
  pub passed : ℕ

-- The fields; the current segments and the buffered records, which know their sources; how many writes were accepted; the recorded
-- views; the holds; what the files of the kept commits say, the newest last, and the live sets of the newest; the snapshots; the
-- merge in the making; the users of names; and the numbers that are taken next.
pub record Shape : Type 0 where
  pub schema : Schema
  pub leaves : List Leaf
  pub buffered : List Record
  pub count : ℕ
  pub views : List View
  pub holds : List Hold
  pub commits : List CommitFile
  pub listed : List ListedLive
  pub taken : List Taken
  pub merging : Option MergingShape
  pub users : List Used
  pub next_segment : ℕ
  pub next_generation : ℕ

-- ---- of a ledger

-- a recorded view, as memory has it
abbrev pub recorded_view : Schema → RecordedView → View
recorded_view schema v = view_of schema v.token v.portions

-- the live set of a portion of a commit
abbrev pub listed_live : Listed → ListedLive
listed_live x = record { number = x.portion.number; live = x.portion.live; file = x.file }

-- a merge: which rows it has kept follows from the others
abbrev pub merging_of : Schema → Merging → MergingShape
merging_of schema m = record { number = m.number; index = m.index; inputs = map (leaf_of schema) m.inputs; passed = m.passed }

-- so, if there is one
abbrev pub merging_shape : Schema → Option Merging → Option MergingShape
merging_shape schema None = None
merging_shape schema (Some m) = Some (merging_of schema m)

-- what memory has of a ledger: all but the sources of its segments, and the rows of commits
abbrev pub shape_of : Ledger → Shape
shape_of l = record {
  schema = l.schema;
  leaves = map (leaf_of l.schema) l.portions;
  buffered = l.buffered;
  count = l.count;
  views = map (recorded_view l.schema) l.views;
  holds = l.holds;
  commits = map (commit_file l.schema) l.commits;
  listed = map listed_live (newest_listed l.commits);
  taken = l.taken;
  merging = merging_shape l.schema l.merging;
  users = l.users;
  next_segment = l.next_segment;
  next_generation = l.next_generation;
}

-- some ledger has the shape
abbrev pub IsShape : Shape → Type 0
IsShape s = (l : Ledger) × (shape_of l ≡ s) × IsLedger l

-- ---- parts of a shape

-- the names of the files of leaves
abbrev pub names_of_leaves : List Leaf → List Name
names_of_leaves leaves = flat_map (λ leaf. Name.segment leaf.segment.number ∷ Name.source leaf.segment.number ∷ []) leaves

-- the names of the files of views, and of commits
abbrev pub names_of_views : List View → List Name
names_of_views views = flat_map needs views

abbrev pub names_of_commits : List CommitFile → List Name
names_of_commits commits = flat_map commit_needs commits

-- the segment that a flush makes, all of it live
abbrev pub flushed_leaf : Shape → Leaf
flushed_leaf s = leaf_of s.schema (all_live s.next_segment s.buffered)

-- the current segments, as a searcher sees them
abbrev pub view_now : Shape → View
view_now s = record { schema = s.schema; leaves = s.leaves; token = s.count }
