-- What each call makes of a shape: what `Calls` of the ledger's model says, of what memory has.
use Rattle.std.specs.Prelude.{◌≡◌, ◌⊎◌, ℕ, ◌+◌, ◌-◌, ◌<◌, ◌≤◌, min, not, ◌&&◌, ◌==◌, List, [], ◌∷◌, ◌++◌, length, map, filter, take, drop, cond, Option, Some, None, true}
use Rattle.std.specs.List.{last_or}
use Rattle.cat_model.specs.Text.{Text}
use Rattle.cat_model.specs.Write.{Write}
use Rattle.cat_model.specs.Table.{without, put_last}
use Rattle.cat_model.specs.Limits.{step_limit, last_number}
use Rattle.cat_model.specs.Files.{Name}
use Rattle.cat_model.specs.CommitFile.{Version, CommitFile, commit_needs}
use Rattle.cat_model.specs.Merged.{rows_of_all, merged_leaf}
use Rattle.cat_model.specs.State.{held_in, snapshots_in, stays_kept}
use Rattle.cat_model.specs.View.{Leaf, View, needs}
use Rattle.cat_ledger_laws.specs.model.Calls.{TakesOne, stays_recorded, stays_pruned, same_live, all_alive}
use Rattle.cat_ledger_laws.specs.model.Leaves.{leaves_after}
use Rattle.cat_ledger_laws.specs.model.Users.{users_of, is_known, has_name, Changes}
use Rattle.cat_ledger_laws.specs.shape.Shapes.{ListedLive, MergingShape, Shape, names_of_leaves, names_of_views, names_of_commits, flushed_leaf, view_now}

-- ---- the writes, and the flush

-- with one write more
abbrev pub with_write : Shape → Write → Shape
with_write s w =
    record s { leaves = leaves_after w s.leaves; buffered = put_last (without s.buffered w) (s.count + 1) w; count = s.count + 1 }

-- the records that wait are a new segment
pub record IsFlushed (s new : Shape) : Type 0 where
  pub some : 0 < length s.buffered
  pub left : s.next_segment ≤ last_number
  pub users : Changes (names_of_leaves (flushed_leaf s ∷ [])) [] s.users new.users
  pub rest : new
      ≡ record s {
        leaves = s.leaves ++ flushed_leaf s ∷ [];
        buffered = [];
        users = new.users;
        next_segment = s.next_segment + 1;
      }

-- where none wait, nothing changes
abbrev pub ShapeFlushes : Shape → Shape → Type 0
ShapeFlushes s new = ((s.buffered ≡ []) × (new ≡ s)) ⊎ IsFlushed s new

-- ---- views and holds

abbrev pub tokens_of : List View → List ℕ
tokens_of views = map (λ v. v.token) views

-- a view of now is recorded: its names are taken, those of the one that goes are given
pub record ShapeRecordsNow (s new : Shape) : Type 0 where
  pub users : Changes (needs (view_now s))
      (names_of_views (filter (λ v. not (stays_recorded (held_in s.holds) (tokens_of s.views) v.token)) s.views))
      s.users new.users
  pub rest : new
      ≡ record s {
        views = filter (λ v. stays_recorded (held_in s.holds) (tokens_of s.views) v.token) s.views ++ view_now s ∷ [];
        users = new.users;
      }

-- the views go that a PRUNE n takes out
pub record IsPruned (n : ℕ) (s new : Shape) : Type 0 where
  pub users : Changes []
      (names_of_views (filter (λ v. not (stays_pruned (held_in s.holds) n (tokens_of s.views) v.token)) s.views))
      s.users new.users
  pub rest : new
      ≡ record s { views = filter (λ v. stays_pruned (held_in s.holds) n (tokens_of s.views) v.token) s.views; users = new.users }

-- ---- a merge

-- a merge of k segments from the one of this index on is begun
pub record IsBegun (index k : ℕ) (s new : Shape) : Type 0 where
  pub idle : s.merging ≡ None
  pub left : s.next_segment ≤ last_number
  pub some : 0 < k
  pub within : index + k ≤ length s.leaves
  pub users : Changes (Name.source s.next_segment ∷ []) [] s.users new.users
  pub rest : new
      ≡ record s {
        merging = Some (record { number = s.next_segment; index = index; inputs = take k (drop index s.leaves); passed = 0 });
        users = new.users;
        next_segment = s.next_segment + 1;
      }

-- with as many rows more passed as one step passes, or all
abbrev pub passed_on : MergingShape → MergingShape
passed_on m = record m { passed = m.passed + min step_limit (length (rows_of_all m.inputs) - m.passed) }

-- a merge has passed one step more
pub record IsCopied (m : MergingShape) (s new : Shape) : Type 0 where
  pub making : s.merging ≡ Some m
  pub left : m.passed < length (rows_of_all m.inputs)
  pub rest : new ≡ record s { merging = Some (passed_on m) }

-- what stands now in the place of the inputs
abbrev pub window_now : MergingShape → List Leaf → List Leaf
window_now m leaves = take (length m.inputs) (drop m.index leaves)

-- the merged segment, or none where no row was kept
abbrev pub merged_or_none : MergingShape → Shape → List Leaf
merged_or_none m s = filter (λ leaf. not (length leaf.segment.rows == 0)) (merged_leaf m.number s.schema m.inputs (window_now m s.leaves) ∷ [])

-- the merged segment stands in the place of the inputs
pub record IsInstalled (m : MergingShape) (s new : Shape) : Type 0 where
  pub making : s.merging ≡ Some m
  pub all : m.passed ≡ length (rows_of_all m.inputs)
  pub users : Changes (names_of_leaves (merged_or_none m s)) (names_of_leaves (window_now m s.leaves) ++ Name.source m.number ∷ []) s.users new.users
  pub rest : new
      ≡ record s {
        leaves = take m.index s.leaves ++ (merged_or_none m s ++ drop (m.index + length m.inputs) s.leaves);
        merging = None;
        users = new.users;
      }

-- a merge step that is refused ends the merge
pub record IsEnded (m : MergingShape) (s new : Shape) : Type 0 where
  pub making : s.merging ≡ Some m
  pub users : Changes [] (Name.source m.number ∷ []) s.users new.users
  pub rest : new ≡ record s { merging = None; users = new.users }

-- ---- commits and snapshots

-- the file that a list has for a leaf's live set: 0 where it has none
abbrev pub file_in : List ListedLive → Leaf → ℕ
file_in [] leaf = 0
file_in (x ∷ xs) leaf = cond ((x.number == leaf.segment.number) && same_live x.live leaf.live) x.file (file_in xs leaf)

-- none where all is live; else the one that has the live set, or a new one
abbrev pub file_for : List ListedLive → ℕ → Leaf → ℕ
file_for xs g leaf = cond (all_alive leaf.live) 0 (cond (file_in xs leaf == 0) g (file_in xs leaf))

-- what the commit of now lists
abbrev pub listed_now : Shape → List ListedLive
listed_now s =
    map (λ (leaf : Leaf). record { number = leaf.segment.number; live = leaf.live; file = file_for s.listed s.next_generation leaf }) s.leaves

-- the commit of now with this text, after a flush
abbrev pub commit_file_now : Text → Shape → CommitFile
commit_file_now text s = record {
  version = Version.second;
  generation = s.next_generation;
  token = s.count;
  next = s.next_segment;
  text = text;
  schema = s.schema;
  segments = map (λ (x : ListedLive). record { number = x.number; file = x.file }) (listed_now s);
}

-- a commit of now is kept: its names are taken, those of the commits that go are given
pub record IsCommitted (text : Text) (s new : Shape) : Type 0 where
  pub left : s.next_generation ≤ last_number
  pub users : Changes (commit_needs (commit_file_now text s))
      (names_of_commits (filter (λ c. not (stays_kept s.taken (Some s.next_generation) c.generation)) s.commits))
      s.users new.users
  pub rest : new
      ≡ record s {
        commits = filter (λ c. stays_kept s.taken (Some s.next_generation) c.generation) s.commits ++ commit_file_now text s ∷ [];
        listed = listed_now s;
        users = new.users;
        next_generation = s.next_generation + 1;
      }

-- the generation of the newest commit
abbrev pub newest_generation : List CommitFile → Option ℕ
newest_generation cs = last_or None (map (λ c. c.generation) cs)

-- one snapshot more of the newest commit, which is g
pub record IsSnapped (g : ℕ) (s new : Shape) : Type 0 where
  pub newest : newest_generation s.commits ≡ Some g
  pub taken : (h : ℕ) → snapshots_in new.taken h ≡ snapshots_in s.taken h + cond (h == g) 1 0
  pub rest : new ≡ record s { taken = new.taken }

-- one snapshot less of g: where that was the last one and g isn't the newest, its commit goes and gives its names
pub record IsUnsnapped (g : ℕ) (s new : Shape) : Type 0 where
  pub some : 0 < snapshots_in s.taken g
  pub taken : (h : ℕ) → snapshots_in new.taken h ≡ snapshots_in s.taken h - cond (h == g) 1 0
  pub users : Changes []
      (names_of_commits (filter (λ c. not (stays_kept new.taken (newest_generation s.commits) c.generation)) s.commits))
      s.users new.users
  pub rest : new
      ≡ record s {
        taken = new.taken;
        commits = filter (λ c. stays_kept new.taken (newest_generation s.commits) c.generation) s.commits;
        users = new.users;
      }

-- ---- sweeps and refusals

-- What a refusal may leave: names that were begun are known and have no users, numbers that were taken stay taken, of each kind one at
-- most and only for a file that was begun, and nothing else changed. A sweep asks for no more.
pub record Leaves (begun : List Name) (s new : Shape) : Type 0 where
  pub known : (q : Name) → has_name q begun ≡ true → is_known new.users q ≡ true
  pub users : (q : Name) → users_of new.users q ≡ users_of s.users q
  pub segments : s.next_segment ≤ new.next_segment
  pub generations : s.next_generation ≤ new.next_generation
  pub one_segment : TakesOne begun (Name.source s.next_segment) s.next_segment new.next_segment
  pub one_generation : TakesOne begun (Name.commit s.next_generation) s.next_generation new.next_generation
  pub left : (new.next_segment ≤ last_number + 1) × (new.next_generation ≤ last_number + 1)
  pub rest : new ≡ record s { users = new.users; next_segment = new.next_segment; next_generation = new.next_generation }
