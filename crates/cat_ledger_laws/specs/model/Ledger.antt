-- The ledger: the one state of the catalogue (IndexWriter with its deleter and its snapshots, SearcherLifetimeManager). Not to
-- be believed, but to prove by: the laws tie it to the state of the service (`state_of`), and that to runs.
use Rattle.std.specs.Prelude.{◌≢◌, ℕ, ◌+◌, ◌<◌, ◌≤◌, List, [], ◌∷◌, ◌++◌, map, Option, Some, None}
use Rattle.std.specs.List.{flat_map, AllByRecursion}
use Rattle.cat_model.specs.Text.{Text}
use Rattle.cat_model.specs.Item.{Schema, Record, IsItem}
use Rattle.cat_model.specs.Files.{Name}
use Rattle.cat_model.specs.CommitFile.{Version, ListedSegment, CommitFile, live_names}
use Rattle.cat_model.specs.Limits.{last_number}
use Rattle.cat_model.specs.State.{RecordedTable, Hold, Commit, Taken, State, IsSound}
use Rattle.cat_ledger_laws.specs.model.Portions.{Portion, records_of, all_records, Apart, ArePortions, Merging, IsMerging}
use Rattle.cat_ledger_laws.specs.model.Users.{Used, AreUsed}

-- a recorded view: the portions under its token
pub record RecordedView : Type 0 where
  pub token : ℕ
  pub portions : List Portion

-- a portion of a commit, and the generation of its live file: 0 where it has none
pub record Listed : Type 0 where
  pub portion : Portion
  pub file : ℕ

-- a commit: the version of its file, its generation, its text, its token, the next segment number that it tells, and its portions
pub record LedgerCommit : Type 0 where
  pub version : Version
  pub generation : ℕ
  pub text : Text
  pub token : ℕ
  pub next : ℕ
  pub listed : List Listed

-- the fields; the current portions and the buffered records; how many writes were accepted; the recorded views in rising
-- order; the holds; the kept commits, the newest last; the snapshots; the merge in the making; the users of names; and the
-- numbers that are taken next
pub record Ledger : Type 0 where
  pub schema : Schema
  pub portions : List Portion
  pub buffered : List Record
  pub count : ℕ
  pub views : List RecordedView
  pub holds : List Hold
  pub commits : List LedgerCommit
  pub taken : List Taken
  pub merging : Option Merging
  pub users : List Used
  pub next_segment : ℕ
  pub next_generation : ℕ

-- ---- what the ledger stands for

-- the table now: the live records, and those that wait
abbrev pub table_of : Ledger → List Record
table_of l = records_of l.portions ++ l.buffered

-- the portions of a commit
abbrev pub portions_in : LedgerCommit → List Portion
portions_in c = map (λ x. x.portion) c.listed

-- what is recorded under the token: the table of the portions
abbrev pub view_shown : RecordedView → RecordedTable
view_shown v = record { token = v.token; table = records_of v.portions }

-- what is committed: likewise
abbrev pub commit_shown : LedgerCommit → Commit
commit_shown c = record { generation = c.generation; text = c.text; token = c.token; table = records_of (portions_in c) }

-- a portion of a commit as the commit's file lists it
abbrev pub listed_segment : Listed → ListedSegment
listed_segment x = record { number = x.portion.number; file = x.file }

-- a commit as its file has it
abbrev pub commit_file : Schema → LedgerCommit → CommitFile
commit_file schema c = record {
  version = c.version;
  generation = c.generation;
  token = c.token;
  next = c.next;
  text = c.text;
  schema = schema;
  segments = map listed_segment c.listed;
}

-- the state that the ledger carries: segments, live sets, merges, numbers and users of names are in none of it
abbrev pub state_of : Ledger → State
state_of l =
    record {
      table = table_of l;
      count = l.count;
      views = map view_shown l.views;
      holds = l.holds;
      commits = map commit_shown l.commits;
      taken = l.taken;
    }

-- ---- the users of names

-- the names of a portion's files: its segment, its sources
abbrev pub names_of_portion : Portion → List Name
names_of_portion p = Name.segment p.number ∷ Name.source p.number ∷ []

-- the names that a view uses, each as often as it has it, and so on for the other users
abbrev pub names_of_view : RecordedView → List Name
names_of_view v = flat_map names_of_portion v.portions

-- the names of a portion of a commit, and of its live file
abbrev pub names_of_listed : Listed → List Name
names_of_listed x = names_of_portion x.portion ++ live_names x.portion.number x.file

-- the name of a commit's own file, and those of its portions
abbrev pub names_of_commit : LedgerCommit → List Name
names_of_commit c = Name.commit c.generation ∷ flat_map names_of_listed c.listed

-- the name of the sources that a merge writes
abbrev pub names_of_merging : Option Merging → List Name
names_of_merging None = []
names_of_merging (Some m) = Name.source m.number ∷ []

-- the users, each with its names
abbrev pub users : Ledger → List (List Name)
users l =
    flat_map names_of_portion l.portions ∷ (map names_of_view l.views ++ (map names_of_commit l.commits ++ names_of_merging l.merging ∷ []))

-- the names of each user in turn: the current portions, the recorded views, the kept commits, the merge in the making
abbrev pub names_used : Ledger → List Name
names_used l =
    flat_map names_of_portion l.portions
    ++ (flat_map names_of_view l.views ++ (flat_map names_of_commit l.commits ++ names_of_merging l.merging))

-- ---- what always holds

-- a number was taken: it is at least 1, and below the one that is taken next
abbrev pub IsTaken : ℕ → ℕ → Type 0
IsTaken next m = (0 < m) × (m < next)

-- the numbers in the name were taken
abbrev pub IsPast : ℕ → ℕ → Name → Type 0
IsPast n g (Name.segment m) = IsTaken n m
IsPast n g (Name.source m) = IsTaken n m
IsPast n g (Name.live m d) = IsTaken n m × IsTaken g d
IsPast n g (Name.commit d) = IsTaken g d

-- the name has a number that is not taken yet
abbrev pub IsNew : ℕ → ℕ → Name → Type 0
IsNew n g (Name.segment m) = n ≤ m
IsNew n g (Name.source m) = n ≤ m
IsNew n g (Name.live m d) = g ≤ d
IsNew n g (Name.commit d) = g ≤ d

-- the name has not this number of a segment
abbrev pub IsOther : ℕ → Name → Type 0
IsOther n (Name.segment m) = m ≢ n
IsOther n (Name.source m) = m ≢ n
IsOther n (Name.live m d) = m ≢ n
IsOther n (Name.commit d) = Unit {0}

-- the name has not the number of the merge in the making
abbrev pub NotOf : Option Merging → Name → Type 0
NotOf None q = Unit {0}
NotOf (Some m) q = IsOther m.number q

-- the merge in the making has a number that no portion, view or commit has
pub record IsAlone (o : Option Merging) (ps : List Portion) (vs : List RecordedView) (cs : List LedgerCommit) : Type 0 where
  pub portions : AllByRecursion (NotOf o) (flat_map names_of_portion ps)
  pub views : AllByRecursion (NotOf o) (flat_map names_of_view vs)
  pub commits : AllByRecursion (NotOf o) (flat_map names_of_commit cs)

-- the record was put by one of the writes, and its item has the fields
pub record IsPutRecord (schema : Schema) (count : ℕ) (r : Record) : Type 0 where
  pub positive : 1 ≤ r.number
  pub seen : r.number ≤ count
  pub item : IsItem schema r.item

-- Portions that are a table at so many writes: each record was put by one of them and has the fields, numbers rise over all
-- records, dead ones too, and the ids of the live ones differ.
pub record AreWhole (schema : Schema) (count : ℕ) (ps : List Portion) : Type 0 where
  pub portions : ArePortions ps
  pub rows : AllByRecursion (IsPutRecord schema count) (all_records ps)
  pub rising : Apart (λ r s. r.number < s.number) (all_records ps)
  pub ids : Apart (λ r s. r.item.id ≢ s.item.id) (records_of ps)

-- a recorded view is whole at its token, which the number of writes has reached
abbrev pub IsWholeView : Schema → ℕ → RecordedView → Type 0
IsWholeView schema count v = (v.token ≤ count) × AreWhole schema v.token v.portions

-- so is a commit
abbrev pub IsWholeCommit : Schema → ℕ → LedgerCommit → Type 0
IsWholeCommit schema count c = (c.token ≤ count) × AreWhole schema c.token (portions_in c)

-- the number of writes, and the numbers of segments and of commits that were taken, are at most the last number
abbrev pub FitNumbers : ℕ → ℕ → ℕ → Type 0
FitNumbers count segment generation = (count ≤ last_number) × (segment ≤ last_number + 1) × (generation ≤ last_number + 1)

-- what holds of the ledger between two calls
pub record IsLedger (l : Ledger) : Type 0 where
  -- the current list is one of portions; each view and each commit is a table at its token
  pub portions : ArePortions l.portions
  pub views : AllByRecursion (IsWholeView l.schema l.count) l.views
  pub commits : AllByRecursion (IsWholeCommit l.schema l.count) l.commits
  -- the generations of the commits rise
  pub generations : Apart (λ c d. c.generation < d.generation) l.commits
  -- each record was put by a write so far and has the fields; numbers rise over all records, dead ones too
  pub rows : AllByRecursion (IsPutRecord l.schema l.count) (all_records l.portions ++ l.buffered)
  pub rising : Apart (λ r s. r.number < s.number) (all_records l.portions ++ l.buffered)
  -- the ids of the table differ
  pub ids : Apart (λ r s. r.item.id ≢ s.item.id) (table_of l)
  -- some view stands, and each held token has one
  pub sound : IsSound (map view_shown l.views) l.holds
  -- the inputs of the merge in the making stand in the list, with records taken out at most
  pub merging : IsMerging l.portions l.merging
  -- its number is no other user's
  pub alone : IsAlone l.merging l.portions l.views l.commits
  -- each name has as many users as have it
  pub users : AreUsed l.users (names_used l)
  -- the numbers of every name that is used were taken: each is at least 1, and below the next
  pub fresh : AllByRecursion (IsPast l.next_segment l.next_generation) (names_used l)
  pub numbers : (0 < l.next_segment) × (0 < l.next_generation)
  -- every number that was taken fits a file
  pub fits : FitNumbers l.count l.next_segment l.next_generation
