-- The laws over the ledger, each the contract of a public function. What `cat_model` defines is what they are about; the
-- ledger's own definitions are not to be believed, but to prove by.
use Rattle.cat_model.specs.View.{View, records_in, IsView, Shows}
use Rattle.cat_model.specs.Text.{Text}
use Rattle.std.specs.Prelude.{count_by, ◌≡◌, ◌≢◌, ℕ, ◌<◌, ◌≤◌, true, List, [], ◌∷◌, ◌++◌, length, map, Some}
use Rattle.std.specs.List.{AllByRecursion}
use Rattle.cat_model.specs.Item.{Schema, IsSchema, IsItem}
use Rattle.cat_model.specs.Write.{Write}
use Rattle.cat_model.specs.Files.{Name, IsFileName}
use Rattle.cat_model.specs.Forms.{IsCommitText}
use Rattle.cat_model.specs.CommitFile.{IsCommitFile, commit_needs}
use Rattle.cat_model.specs.Merged.{merged_leaf, AreDeletedFrom}
use Rattle.cat_model.specs.Run.{Line, Reply, Run, IsRun, Fits}
use Rattle.cat_model.specs.Limits.{last_number, segment_limit}
use Rattle.cat_model.specs.Table.{Opened}
use Rattle.cat_ledger_laws.specs.model.Plans.{MergePolicy}
use Rattle.cat_ledger_laws.specs.model.Replies.{Calls}
use Rattle.cat_model.specs.State.{StandsFor, Step, Hold, IsSound, held_in, written, refreshed, views_pruned, committed, is_below, newest_of, TakesSnapshot, GivesSnapshot, IsFresh}
use Rattle.cat_ledger_laws.specs.model.Portions.{Portion, Apart, all_records, leaf_of, view_of, records_of, Merging, all_live, portion_window_now, settled, merged}
use Rattle.cat_ledger_laws.specs.model.Ledger.{users, commit_shown, commit_file, Ledger, LedgerCommit, names_of_portion, names_of_commit, AreWhole, IsLedger, FitNumbers, IsPast, IsNew, portions_in, names_used, table_of, state_of}
use Rattle.cat_ledger_laws.specs.model.Users.{AreUsed, users_of, has_name}
use Rattle.cat_ledger_laws.specs.model.Stored.{FileBytes, portion_in, IsCommitWritten, IsCommitStored, AreStored, IsStored, IsSegmentStored, IsLiveStored, joined_sources, SparesFiles, ChangesOnly}
use Rattle.cat_ledger_laws.specs.model.Calls.{files_begun, commit_of, portion_file_for, newest_listed, records_passed_on, RecordsNow, wrote, Ended, MayLeave, RecordsView, Pruned, Committed, Snaps, Unsnapped, IsOpened, IsEmpty, Flushes, Flushed, Installed, MergeBegun, Copied}

-- A merge that is installed, whatever was deleted since its beginning, leaves the ledger sound and its state as it was.
abbrev pub MergesChangeNoState : Type 0
MergesChangeNoState = (m : Merging) (l new : Ledger) → IsLedger l → Installed m l new → IsLedger new × (state_of new ≡ state_of l)

-- A flush leaves the ledger sound, its state as it was, and nothing that waits.
abbrev pub FlushesChangeNoState : Type 0
FlushesChangeNoState =
    (l new : Ledger) → IsLedger l → Flushes l new → IsLedger new × (state_of new ≡ state_of l) × (new.buffered ≡ [])

-- the item that a write puts, if it puts one, has the fields of the schema
abbrev pub PutsItem : Schema → Write → Type 0
PutsItem schema (Write.put i) = IsItem schema i
PutsItem schema (Write.delete id) = Unit {0}
PutsItem schema (Write.delete_where q) = Unit {0}

-- A write leaves the ledger sound, and its state is the one with that write.
abbrev pub WritesAreWritten : Type 0
WritesAreWritten =
    (l : Ledger) (w : Write) → IsLedger l → l.count < last_number → PutsItem l.schema w
    → IsLedger (wrote l w) × (state_of (wrote l w) ≡ written (state_of l) w)

-- Where nothing waits, a view of now is recorded, where it has none, as a REFRESH asks.
abbrev pub ViewsAreRecorded : Type 0
ViewsAreRecorded =
    (l new : Ledger) → IsLedger l → l.buffered ≡ [] → RecordsView l new
    → IsLedger new × (state_of new ≡ refreshed (state_of l))

-- Views are dropped as a PRUNE asks.
abbrev pub ViewsArePruned : Type 0
ViewsArePruned = (n : ℕ) (l new : Ledger) → IsLedger l → Pruned n l new
    → IsLedger new × (state_of new ≡ record (state_of l) { views = views_pruned (held_in l.holds) n (state_of l).views })

-- Where nothing waits, a commit of now is kept, as a COMMIT asks, and its generation is above that of each other.
abbrev pub CommitsAreKept : Type 0
CommitsAreKept = (text : Text) (l new : Ledger) → IsLedger l → l.buffered ≡ [] → Committed text l new
    → IsLedger new
    × (state_of new ≡ committed (state_of l) (record { generation = l.next_generation; text = text }))
    × (is_below (newest_of (state_of l).commits) l.next_generation ≡ true)

-- A snapshot is counted, as a SNAP asks.
abbrev pub SnapshotsAreTaken : Type 0
SnapshotsAreTaken =
    (g : ℕ) (l new : Ledger) → IsLedger l → Snaps g l new → IsLedger new × TakesSnapshot (state_of l) g (state_of new)

-- The files of a commit are given where its last snapshot is given back and it isn't the newest.
abbrev pub SnapshotsAreGiven : Type 0
SnapshotsAreGiven =
    (g : ℕ) (l new : Ledger) → IsLedger l → Unsnapped g l new
    → IsLedger new × GivesSnapshot (state_of l) g (state_of new)

-- the users and the numbers of a ledger are as they have to be, which is for who opens it
pub record IsCountedRight (l : Ledger) : Type 0 where
  pub users : AreUsed l.users (names_used l)
  pub fresh : AllByRecursion (IsPast l.next_segment l.next_generation) (names_used l)
  pub numbers : (0 < l.next_segment) × (0 < l.next_generation)
  pub fits : FitNumbers l.count l.next_segment l.next_generation

-- A ledger that was opened at a commit that is whole is sound, and a fresh state of that commit's table.
abbrev pub OpenedAreFresh : Type 0
OpenedAreFresh = (c : LedgerCommit) (l : Ledger) → IsOpened c l → AreWhole l.schema c.token (portions_in c) → IsCountedRight l
    → IsLedger l × IsFresh (state_of l) × (table_of l ≡ records_of (portions_in c))

-- A merge that is begun changes no state.
abbrev pub BegunChangeNoState : Type 0
BegunChangeNoState =
    (index k : ℕ) (l new : Ledger) → IsLedger l → MergeBegun index k l new → IsLedger new × (state_of new ≡ state_of l)

-- Nor does a step of it.
abbrev pub CopiesChangeNoState : Type 0
CopiesChangeNoState = (m : Merging) (l new : Ledger) → IsLedger l → Copied m l new → IsLedger new × (state_of new ≡ state_of l)

-- Nor does a refused step, which ends it.
abbrev pub EndsChangeNoState : Type 0
EndsChangeNoState = (m : Merging) (l new : Ledger) → IsLedger l → Ended m l new → IsLedger new × (state_of new ≡ state_of l)

-- A refusal that leaves files behind that were begun, and numbers that were taken, changes no state. Nor does a sweep.
abbrev pub RefusalsChangeNoState : Type 0
RefusalsChangeNoState =
    (begun : List Name) (l new : Ledger) → IsLedger l → MayLeave begun l new
    → IsLedger new × (state_of new ≡ state_of l)

-- Holds concern the views alone.
abbrev pub HoldsAreApart : Type 0
HoldsAreApart =
    (l : Ledger) (hs : List Hold) → IsLedger l → IsSound (state_of l).views hs
    → IsLedger (record l { holds = hs }) × (state_of (record l { holds = hs }) ≡ record (state_of l) { holds = hs })

-- ---- the files that are needed

-- Where each name that is used keeps its file, every file that is needed is there.
abbrev pub FilesStay : Type 0
FilesStay = (l : Ledger) (fs gs : FileBytes) → AreStored fs l → SparesFiles (names_used l) fs gs → AreStored gs l

-- A write touches no file.
abbrev pub WritesStore : Type 0
WritesStore = (l : Ledger) (w : Write) (fs : FileBytes) → AreStored fs l → AreStored fs (wrote l w)

-- A flush touches the new segment's files alone, and leaves it in them.
abbrev pub FlushesStore : Type 0
FlushesStore = (l new : Ledger) (fs gs : FileBytes) → IsLedger l → AreStored fs l → Flushed l new
    → ChangesOnly (names_of_portion (all_live l.next_segment l.buffered)) fs gs → IsStored gs l.schema (all_live l.next_segment l.buffered)
    → AreStored gs new

-- Recording a view touches no file.
abbrev pub RecordsStore : Type 0
RecordsStore = (l new : Ledger) (fs : FileBytes) → AreStored fs l → RecordsNow l new → AreStored fs new

-- Nor does pruning.
abbrev pub PrunesStore : Type 0
PrunesStore = (n : ℕ) (l new : Ledger) (fs : FileBytes) → AreStored fs l → Pruned n l new → AreStored fs new

-- A commit touches files of its own generation alone, and writes its own file and that of each live set that no file has.
abbrev pub CommitsStore : Type 0
CommitsStore =
    (text : Text) (l new : Ledger) (fs gs : FileBytes) → IsLedger l → AreStored fs l → Committed text l new
    → ChangesOnly (files_begun l) fs gs
    → IsCommitWritten gs l.schema (commit_of text l)
    → AllByRecursion (λ p. portion_file_for (newest_listed l.commits) l.next_generation p ≡ l.next_generation
    → IsLiveStored gs (record { portion = p; file = l.next_generation })) l.portions
    → AreStored gs new

-- Giving a snapshot back touches no file: what nobody uses any more is a sweep's.
abbrev pub UnsnapsStore : Type 0
UnsnapsStore = (g : ℕ) (l new : Ledger) (fs : FileBytes) → AreStored fs l → Unsnapped g l new → AreStored fs new

-- A merge that is begun touches its own sources alone, and leaves them empty.
abbrev pub BegunStore : Type 0
BegunStore =
    (index k : ℕ) (l new : Ledger) (fs gs : FileBytes) → IsLedger l → AreStored fs l → MergeBegun index k l new
    → ChangesOnly (Name.source l.next_segment ∷ []) fs gs → gs (Name.source l.next_segment) ≡ Some []
    → AreStored gs new

-- A step of it touches them alone, and leaves the sources of what it has kept.
abbrev pub CopiesStore : Type 0
CopiesStore =
    (m : Merging) (l new : Ledger) (fs gs : FileBytes) → IsLedger l → AreStored fs l → Copied m l new
    → ChangesOnly (Name.source m.number ∷ []) fs gs
    → gs (Name.source m.number) ≡ Some (joined_sources (records_passed_on m).kept) → AreStored gs new

-- A merge that is installed touches its own segment alone, and leaves it in its file.
abbrev pub MergesStore : Type 0
MergesStore =
    (m : Merging) (l new : Ledger) (fs gs : FileBytes) → IsLedger l → AreStored fs l → Installed m l new
    → ChangesOnly (Name.segment m.number ∷ []) fs gs
    → AllByRecursion (IsSegmentStored gs l.schema) (merged m.kept (settled m l.portions))
    → AreStored gs new

-- A merge that is ended touches no other files than its own.
abbrev pub EndsStore : Type 0
EndsStore =
    (m : Merging) (l new : Ledger) (fs gs : FileBytes) → IsLedger l → AreStored fs l → Ended m l new
    → ChangesOnly (Name.source m.number ∷ Name.segment m.number ∷ []) fs gs → AreStored gs new

-- A refused call touches files that it began alone, under numbers that were not taken before.
abbrev pub RefusalsStore : Type 0
RefusalsStore = (begun : List Name) (l new : Ledger) (fs gs : FileBytes) → IsLedger l → AreStored fs l → MayLeave begun l new
    → AllByRecursion (IsNew l.next_segment l.next_generation) begun → ChangesOnly begun fs gs → AreStored gs new

-- A sweep that leaves each name that has users leaves each name that is used.
abbrev pub SweepsSpare : Type 0
SweepsSpare =
    (l : Ledger) (fs gs : FileBytes) → IsLedger l → ((q : Name) → 0 < users_of l.users q → gs q ≡ fs q)
    → SparesFiles (names_used l) fs gs

-- ---- lines

-- The ledger's calls for a line leave it sound, and are a step of the service from its state.
abbrev pub CallsAreSteps : Type 0
CallsAreSteps =
    (policy : MergePolicy) (l new : Ledger) (line : Line) (r : Reply) → IsLedger l → Calls policy l line r new
    → IsLedger new × Step l.schema (state_of l) line r (state_of new)

-- ---- what other crates ask for

-- The records that a merge has kept once it passed all may stand in one segment: numbers rise, and ids differ, dead ones too.
abbrev pub KeptMayStand : Type 0
KeptMayStand = (m : Merging) (l : Ledger) → IsLedger l → l.merging ≡ Some m → m.passed ≡ length (all_records m.inputs)
    → Apart (λ r s. r.number < s.number) m.kept × Apart (λ r s. r.item.id ≢ s.item.id) m.kept

-- Portions that are whole are a view, which shows their live records.
abbrev pub WholeAreViews : Type 0
WholeAreViews =
    (schema : Schema) (token : ℕ) (ps : List Portion) → AreWhole schema token ps
    → IsView (view_of schema token ps) × Shows (view_of schema token ps) (records_of ps)

-- A ledger that is opened at a kept commit has the table of that commit.
abbrev pub KeptCommitsOpen : Type 0
KeptCommitsOpen = (l : Ledger) → IsLedger l → AllByRecursion (λ c.
    (opened : Ledger) → opened.schema ≡ l.schema → IsOpened c opened → IsCountedRight opened
    → IsLedger opened × IsFresh (state_of opened) × (table_of opened ≡ (commit_shown c).table) × (opened.count ≡ (commit_shown c).token)) l.commits

-- The names that a commit uses are those that its file needs.
abbrev pub CommitsNeedTheirNames : Type 0
CommitsNeedTheirNames = (schema : Schema) (c : LedgerCommit) → names_of_commit c ≡ commit_needs (commit_file schema c)

-- Every name that is used is one that a file can have.
abbrev pub UsedMayBeNamed : Type 0
UsedMayBeNamed = (l : Ledger) → IsLedger l → AllByRecursion IsFileName (names_used l)

-- A commit of now can be said in a file, where the fields are a schema, the text has the form, and a generation and places for
-- the segments are left.
abbrev pub CommitsMayBeWritten : Type 0
CommitsMayBeWritten =
    (text : Text) (l : Ledger) → IsLedger l → IsSchema l.schema → IsCommitText text → length l.portions ≤ segment_limit
    → l.next_generation ≤ last_number → IsCommitFile (commit_file l.schema (commit_of text l))

-- What is installed is the merged leaf of the inputs as they were at the beginning and as they are now, which only lost rows.
abbrev pub SettledAreMerged : Type 0
SettledAreMerged =
    (m : Merging) (l : Ledger) → IsLedger l → l.merging ≡ Some m → m.passed ≡ length (all_records m.inputs)
    → (leaf_of l.schema (settled m l.portions)
    ≡ merged_leaf m.number l.schema (map (leaf_of l.schema) m.inputs) (map (leaf_of l.schema) (portion_window_now m l.portions)))
    × AreDeletedFrom (map (leaf_of l.schema) m.inputs) (map (leaf_of l.schema) (portion_window_now m l.portions))

-- Each user has a name at most once, so that the count of a name is the number of users that have it.
abbrev pub UsersAreCounted : Type 0
UsersAreCounted = (l : Ledger) → IsLedger l → (q : Name) → users_of l.users q ≡ count_by (has_name q) (users l)

-- No call changes the fields.
abbrev pub SchemasStay : Type 0
SchemasStay = (policy : MergePolicy) (l new : Ledger) (line : Line) (r : Reply) → Calls policy l line r new → new.schema ≡ l.schema

-- A ledger that is opened where no commit is, is sound, and a fresh state of no records.
abbrev pub EmptyAreFresh : Type 0
EmptyAreFresh = (l : Ledger) → IsEmpty l → IsCountedRight l
    → IsLedger l × IsFresh (state_of l) × (table_of l ≡ [])

-- Where the files of a commit are there, so is every file that a ledger needs that is opened at it.
abbrev pub OpenedStore : Type 0
OpenedStore = (c : LedgerCommit) (l : Ledger) (fs : FileBytes) → IsOpened c l → IsCommitStored fs l.schema c → AreStored fs l

-- The rows of a portion, with the sources that stand one after the other in their file, are its records.
abbrev pub PortionsAreRead : Type 0
PortionsAreRead =
    (schema : Schema) (p : Portion) (sources : ℕ → Text) → sources p.number ≡ joined_sources p.records
    → portion_in sources (leaf_of schema p) ≡ p

-- The records of a view over those files are the live records of its portions.
abbrev pub ViewsAreRead : Type 0
ViewsAreRead = (sources : ℕ → Text) (view : View) → records_in sources view ≡ records_of (map (portion_in sources) view.leaves)

-- Whatever run a ledger's state stands for, the reply to a line fits it, and the state after it stands for the longer run.
abbrev pub CallsKeepRuns : Type 0
CallsKeepRuns =
    (policy : MergePolicy) (from : Opened) (run : Run) (l new : Ledger) (line : Line) (r : Reply)
    → from.start.schema ≡ l.schema → IsRun from run → StandsFor from run (state_of l) → IsLedger l → Calls policy l line r new
    → IsLedger new × Fits from run (record { line = line; reply = r }) × StandsFor from (run ++ record { line = line; reply = r } ∷ []) (state_of new)
