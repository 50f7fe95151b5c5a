-- The laws of opening over shapes: what memory has that was read from the files of a commit is a ledger, and so is what it has
-- where no commit is.
use Rattle.std.specs.Prelude.{◌≡◌, ℕ, ◌+◌, ◌<◌, ◌≤◌, List, [], ◌∷◌, Some, None, All}
use Rattle.cat_model.specs.Text.{Text}
use Rattle.cat_model.specs.Item.{Schema}
use Rattle.cat_model.specs.Files.{Name}
use Rattle.cat_model.specs.Limits.{last_number}
use Rattle.cat_model.specs.CommitFile.{ListedSegment, commit_needs}
use Rattle.cat_model.specs.State.{IsFresh}
use Rattle.cat_model.specs.View.{Leaf, View, needs}
use Rattle.cat_ledger_laws.specs.model.Users.{Used, users_of, times}
use Rattle.cat_ledger_laws.specs.model.Ledger.{LedgerCommit, Ledger, IsPast, commit_file, state_of}
use Rattle.cat_ledger_laws.specs.model.Stored.{FileBytes}
use Rattle.cat_ledger_laws.specs.model.Calls.{IsOpened, IsEmpty}
use Rattle.cat_ledger_laws.specs.model.Opening.{Restored, IsRestored}
use Rattle.cat_ledger_laws.specs.shape.Shapes.{ListedLive, Shape, IsShape, names_of_leaves}
use Rattle.cat_ledger_laws.specs.shape.Ties.{file_of, ToldFiles, IsTold, Carries}

-- the file may have these bytes: where the device tells of it, it tells them
abbrev pub MayHold : ToldFiles → Name → Text → Type 0
MayHold told q bytes = IsTold (told (file_of q)) (Some bytes)

-- ---- at a commit

-- the view of a commit
abbrev pub view_at : Schema → Restored → View
view_at schema r = record { schema = schema; leaves = r.leaves; token = r.commit.token }

-- the segments of a commit, with their live sets
abbrev pub listed_with : List ListedSegment → List Leaf → List ListedLive
listed_with [] leaves = []
listed_with (x ∷ xs) [] = []
listed_with (x ∷ xs) (leaf ∷ leaves) = record { number = x.number; live = leaf.live; file = x.file } ∷ listed_with xs leaves

-- The memory of a ledger that was opened at the commit: its segments, one view of them, no hold, that commit alone, and no snapshot;
-- the users and the next numbers are for who opens it.
abbrev pub opened_at : Schema → Restored → List Used → ℕ → ℕ → Shape
opened_at schema r users n g = record {
  schema = schema;
  leaves = r.leaves;
  buffered = [];
  count = r.commit.token;
  views = view_at schema r ∷ [];
  holds = [];
  commits = r.commit ∷ [];
  listed = listed_with r.commit.segments r.leaves;
  taken = [];
  merging = None;
  users = users;
  next_segment = n;
  next_generation = g;
}

-- each name has as many users as the segments, the view and the commit have it; and the next numbers are above all of them
pub record IsCountedAt (schema : Schema) (r : Restored) (us : List Used) (n g : ℕ) : Type 0 where
  pub users : (q : Name)
      → users_of us q ≡ times q (names_of_leaves r.leaves) + (times q (needs (view_at schema r)) + times q (commit_needs r.commit))
  pub past : All (IsPast n g) (commit_needs r.commit)
  pub some : 0 < n
  pub left : (n ≤ last_number + 1) × (g ≤ last_number + 1)

-- Where a commit's files may hold this, memory carries a ledger that is opened at that commit.
abbrev pub OpenedMake : Type 0
OpenedMake = (told : ToldFiles) (schema : Schema) (generation : ℕ) (r : Restored) (users : List Used) (n g : ℕ)
    → IsRestored (MayHold told) schema generation r → IsCountedAt schema r users n g
    → (l : Ledger) × (files : FileBytes) × (c : LedgerCommit) × (commit_file schema c ≡ r.commit) × IsOpened c l × IsFresh (state_of l)
    × Carries told (opened_at schema r users n g) l files

abbrev pub OpenedKeep : Type 0
OpenedKeep = (told : ToldFiles) (schema : Schema) (generation : ℕ) (r : Restored) (users : List Used) (n g : ℕ)
    → IsRestored (MayHold told) schema generation r → IsCountedAt schema r users n g → IsShape (opened_at schema r users n g)

-- ---- where no commit is

-- the memory of a ledger without records
abbrev pub empty_at : Schema → List Used → ℕ → ℕ → Shape
empty_at schema users n g = record {
  schema = schema;
  leaves = [];
  buffered = [];
  count = 0;
  views = record { schema = schema; leaves = []; token = 0 } ∷ [];
  holds = [];
  commits = [];
  listed = [];
  taken = [];
  merging = None;
  users = users;
  next_segment = n;
  next_generation = g;
}

-- no name has users, and the next numbers can be taken
pub record IsCountedEmpty (us : List Used) (n g : ℕ) : Type 0 where
  pub users : (q : Name) → users_of us q ≡ 0
  pub some : (0 < n) × (0 < g)
  pub left : (n ≤ last_number + 1) × (g ≤ last_number + 1)

-- Memory without records carries a ledger that is opened where no commit is.
abbrev pub EmptyMake : Type 0
EmptyMake = (told : ToldFiles) (schema : Schema) (users : List Used) (n g : ℕ) → IsCountedEmpty users n g
    → (l : Ledger) × (files : FileBytes) × IsEmpty l × IsFresh (state_of l) × Carries told (empty_at schema users n g) l files

abbrev pub EmptyKeep : Type 0
EmptyKeep = (schema : Schema) (users : List Used) (n g : ℕ) → IsCountedEmpty users n g → IsShape (empty_at schema users n g)
