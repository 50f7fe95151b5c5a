-- The laws of commits and snapshots over shapes, and of opening.
use Rattle.std.specs.Prelude.{◌≡◌, ◌≢◌, ℕ, ◌+◌, ◌<◌, ◌≤◌, ◌^◌, ◌==◌, Bool, true, List, [], ◌∷◌, length, map, filter, cond, All, AllPairs}
use Rattle.std.specs.List.{flat_map, AllByRecursion}
use Rattle.cat_model.specs.Text.{Text}
use Rattle.cat_model.specs.Item.{IsSchema}
use Rattle.cat_model.specs.Files.{Name}
use Rattle.cat_model.specs.Forms.{IsCommitText}
use Rattle.cat_model.specs.Limits.{last_number, segment_limit, row_limit, view_limit}
use Rattle.cat_model.specs.LiveFile.{SpellsLive, AreLiveRows}
use Rattle.cat_model.specs.CommitFile.{IsCommitFile, SpellsCommit, commit_needs}
use Rattle.cat_model.specs.View.{Leaf, needs}
use Rattle.cat_directory.specs.declared.name.FileName.TheVariants as file
use Rattle.cat_ledger_laws.specs.model.Calls.{Committed, Snaps, Unsnapped}
use Rattle.cat_ledger_laws.specs.model.Ledger.{IsNew}
use Rattle.cat_ledger_laws.specs.model.Users.{users_of, times, has_name}
use Rattle.cat_ledger_laws.specs.shape.Shapes.{ListedLive, Shape, IsShape, names_of_commits, view_now}
use Rattle.cat_ledger_laws.specs.shape.Steps.{listed_now, commit_file_now, file_for, IsCommitted, IsSnapped, IsUnsnapped}
use Rattle.cat_ledger_laws.specs.shape.Ties.{ToldFiles, Makes, TouchesOnly, TouchesNothing, TellsBytes}

-- the files that a commit may begin
abbrev pub shape_files_begun : Shape → List Name
shape_files_begun s = Name.commit s.next_generation ∷ map (λ (leaf : Leaf). Name.live leaf.segment.number s.next_generation) s.leaves

-- the live rows that stand in a new live file of the commit, where the leaf gets one
abbrev pub HasNewLive : ToldFiles → Shape → Leaf → Type 0
HasNewLive told' s leaf = file_for s.listed s.next_generation leaf ≡ s.next_generation
    → TellsBytes told' (file.Live leaf.segment.number s.next_generation)
    (λ bytes. SpellsLive bytes (record { number = leaf.segment.number; generation = s.next_generation; live = leaf.live }))

-- the commit's own file and each new live file are written, and no other has changed
pub record WritesCommit (text : Text) (s : Shape) (told told' : ToldFiles) : Type 0 where
  pub others : TouchesOnly (shape_files_begun s) told told'
  pub commit : TellsBytes told' (file.Commit s.next_generation) (λ bytes. SpellsCommit bytes (commit_file_now text s))
  pub live : AllByRecursion (HasNewLive told' s) s.leaves

abbrev pub CommitsMake : Type 0
CommitsMake = (text : Text) (s new : Shape) (told told' : ToldFiles) → s.buffered ≡ [] → IsCommitted text s new → WritesCommit text s told told'
    → Makes (Committed text) told s told' new

abbrev pub CommitsKeep : Type 0
CommitsKeep = (text : Text) (s new : Shape) → s.buffered ≡ [] → IsCommitted text s new → IsShape s → IsShape new

abbrev pub SnapsMake : Type 0
SnapsMake = (g : ℕ) (s new : Shape) (told told' : ToldFiles) → IsSnapped g s new → TouchesNothing told told' → Makes (Snaps g) told s told' new

abbrev pub SnapsKeep : Type 0
SnapsKeep = (g : ℕ) (s new : Shape) → IsSnapped g s new → IsShape s → IsShape new

abbrev pub UnsnapsMake : Type 0
UnsnapsMake = (g : ℕ) (s new : Shape) (told told' : ToldFiles) → IsUnsnapped g s new → TouchesNothing told told' → Makes (Unsnapped g) told s told' new

abbrev pub UnsnapsKeep : Type 0
UnsnapsKeep = (g : ℕ) (s new : Shape) → IsUnsnapped g s new → IsShape s → IsShape new

-- ---- what a shape gives

-- a commit of now can be said in a file, and each live set that isn't whole in one of its own
abbrev pub CommitsMayBeSaid : Type 0
CommitsMayBeSaid = (text : Text) (s : Shape) → IsShape s → IsSchema s.schema → IsCommitText text → length s.leaves ≤ segment_limit
    → s.next_generation ≤ last_number → IsCommitFile (commit_file_now text s)

-- each name has as many users at least as the commits have it
abbrev pub CommitsAreCounted : Type 0
CommitsAreCounted = (s : Shape) → IsShape s → (q : Name) → times q (names_of_commits s.commits) ≤ users_of s.users q

-- no name has as many users as a count can't tell: a name is one user's once, and generations rise
abbrev pub UsersFit : Type 0
UsersFit = (s : Shape) (q : Name) → IsShape s → length s.views ≤ view_limit → users_of s.users q + 2 < 2 ^ 64

-- a commit of now, a view of now and a new segment name each file once
abbrev pub NamesComeOnce : Type 0
NamesComeOnce = (text : Text) (s : Shape) (q : Name) → IsShape s
    → (times q (commit_needs (commit_file_now text s)) ≤ 1) × (times q (needs (view_now s)) ≤ 1)

-- the numbers of the segments that the newest commit lists differ
abbrev pub ListedDiffer : Type 0
ListedDiffer = (s : Shape) → IsShape s → AllPairs (λ a b. a.number ≢ b.number) s.listed

-- a new live file of the commit can be written, where a segment has rows, and not too many
abbrev pub LiveMayBeWritten : Type 0
LiveMayBeWritten = (s : Shape) → IsShape s → s.next_generation ≤ last_number → All (λ leaf.
    file_for s.listed s.next_generation leaf ≡ s.next_generation → 1 ≤ length leaf.live → length leaf.live ≤ row_limit
    → AreLiveRows (record { number = leaf.segment.number; generation = s.next_generation; live = leaf.live })) s.leaves

-- each name has as many users at least as the commits have it that go
abbrev pub LeavingAreCounted : Type 0
LeavingAreCounted = (s : Shape) (goes : ℕ → Bool) (q : Name) → IsShape s
    → times q (names_of_commits (filter (λ c. goes c.generation) s.commits)) ≤ users_of s.users q

-- the names that a commit of now begins: its own file, and the new files of live rows
abbrev pub names_begun : Shape → List Name
names_begun s = Name.commit s.next_generation
    ∷ flat_map (λ (x : ListedLive). cond (x.file == s.next_generation) (Name.live x.number x.file ∷ []) []) (listed_now s)

-- They have a number that was not taken, and the commit uses each of them.
pub record AreBegun (text : Text) (s : Shape) : Type 0 where
  pub new : AllByRecursion (IsNew s.next_segment s.next_generation) (names_begun s)
  pub used : (q : Name) → has_name q (names_begun s) ≡ true → has_name q (commit_needs (commit_file_now text s)) ≡ true

abbrev pub NamesAreBegun : Type 0
NamesAreBegun = (text : Text) (s : Shape) → IsShape s → AreBegun text s
