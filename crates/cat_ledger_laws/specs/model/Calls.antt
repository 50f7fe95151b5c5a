-- What each call makes of the ledger. Not to be believed: the laws tie it to the state of the service, and by it the calls in
-- code are proved.
use Rattle.std.specs.Prelude.{◌≡◌, ◌⊎◌, ℕ, ◌+◌, ◌-◌, ◌<◌, ◌≤◌, max, min, not, ◌&&◌, ◌||◌, ◌==◌, ltb, Bool, true, false, List, [], ◌∷◌, ◌++◌, length, map, filter, take, drop, count_by, cond, Option, Some, None}
use Rattle.std.specs.List.{flat_map, list_any, list_all, last_or}
use Rattle.cat_model.specs.Text.{Text}
use Rattle.cat_model.specs.Write.{Write}
use Rattle.cat_model.specs.Table.{without, put_last}
use Rattle.cat_model.specs.Limits.{view_limit, step_limit, last_number}
use Rattle.cat_model.specs.Files.{Name}
use Rattle.cat_model.specs.CommitFile.{Version}
use Rattle.cat_model.specs.State.{held_in, snapshots_in, stays_kept, newest_of}
use Rattle.cat_ledger_laws.specs.model.Portions.{Portion, all_records, all_live, portions_after, Merging, kept_by, portion_window_now, settled, merged, installed}
use Rattle.cat_ledger_laws.specs.model.Users.{users_of, is_known, has_name, Changes}
use Rattle.cat_ledger_laws.specs.model.Ledger.{RecordedView, Listed, LedgerCommit, Ledger, portions_in, commit_shown, names_of_portion, names_of_view, names_of_commit}

-- ---- the writes, and the flush

-- with one write more
abbrev pub wrote : Ledger → Write → Ledger
wrote l w =
    record l { portions = portions_after w l.portions; buffered = put_last (without l.buffered w) (l.count + 1) w; count = l.count + 1 }

-- the records that wait are a new segment
pub record Flushed (l new : Ledger) : Type 0 where
  pub some : 0 < length l.buffered
  pub left : l.next_segment ≤ last_number
  pub users : Changes (names_of_portion (all_live l.next_segment l.buffered)) [] l.users new.users
  pub rest : new
      ≡ record l {
        portions = l.portions ++ all_live l.next_segment l.buffered ∷ [];
        buffered = [];
        users = new.users;
        next_segment = l.next_segment + 1;
      }

-- where none wait, nothing changes
abbrev pub Flushes : Ledger → Ledger → Type 0
Flushes l new = ((l.buffered ≡ []) × (new ≡ l)) ⊎ Flushed l new

-- ---- REFRESH and PRUNE

-- the tokens of the recorded views
abbrev pub tokens_in : List RecordedView → List ℕ
tokens_in vs = map (λ v. v.token) vs

-- a view of the token is recorded
abbrev pub has_recorded : List RecordedView → ℕ → Bool
has_recorded vs t = list_any (λ v. v.token == t) vs

-- a view stays where it is held, or another one that is not held has a lesser token
abbrev pub stays_full : (ℕ → Bool) → List ℕ → ℕ → Bool
stays_full held ts t = held t || list_any (λ u. not (held u) && ltb u t) ts

-- a view stays that is held or among those of the greatest max n 1 tokens
abbrev pub stays_pruned : (ℕ → Bool) → ℕ → List ℕ → ℕ → Bool
stays_pruned held n ts t = held t || ltb (count_by (λ u. ltb t u) ts) (max n 1)

-- whether a view stays as one more is recorded
abbrev pub stays_recorded : (ℕ → Bool) → List ℕ → ℕ → Bool
stays_recorded held ts t = ltb (length ts) view_limit || stays_full held ts t

-- the views whose tokens pass the test
abbrev pub views_that : (ℕ → Bool) → List RecordedView → List RecordedView
views_that stays vs = filter (λ v. stays v.token) vs

-- the views whose tokens don't
abbrev pub views_not : (ℕ → Bool) → List RecordedView → List RecordedView
views_not stays vs = filter (λ v. not (stays v.token)) vs

-- the view of now
abbrev pub recorded_view_now : Ledger → RecordedView
recorded_view_now l = record { token = l.count; portions = l.portions }

-- after a flush, a view of now is recorded where none stands: its names are taken, those of the one that goes are given
pub record RecordsNow (l new : Ledger) : Type 0 where
  pub users : Changes (names_of_view (recorded_view_now l))
      (flat_map names_of_view (views_not (stays_recorded (held_in l.holds) (tokens_in l.views)) l.views))
      l.users new.users
  pub rest : new
      ≡ record l { views = views_that (stays_recorded (held_in l.holds) (tokens_in l.views)) l.views ++ recorded_view_now l ∷ []; users = new.users }

-- after a flush, a view of now is recorded, or stands already
abbrev pub RecordsView : Ledger → Ledger → Type 0
RecordsView l new = cond (has_recorded l.views l.count) (new ≡ l) (RecordsNow l new)

-- the views go that a PRUNE n takes out, and their names are given
pub record Pruned (n : ℕ) (l new : Ledger) : Type 0 where
  pub users : Changes [] (flat_map names_of_view (views_not (stays_pruned (held_in l.holds) n (tokens_in l.views)) l.views)) l.users new.users
  pub rest : new
      ≡ record l { views = views_that (stays_pruned (held_in l.holds) n (tokens_in l.views)) l.views; users = new.users }

-- ---- a merge

-- a merge of k portions from the one of this index on is begun
pub record MergeBegun (index k : ℕ) (l new : Ledger) : Type 0 where
  pub idle : l.merging ≡ None
  pub left : l.next_segment ≤ last_number
  pub some : 0 < k
  pub within : index + k ≤ length l.portions
  pub users : Changes (Name.source l.next_segment ∷ []) [] l.users new.users
  pub rest : new
      ≡ record l {
        merging = Some (record { number = l.next_segment; index = index; inputs = take k (drop index l.portions); passed = 0; kept = [] });
        users = new.users;
        next_segment = l.next_segment + 1;
      }

-- with as many records more passed as one step passes, or all
abbrev pub records_passed_on : Merging → Merging
records_passed_on m =
    record m {
      passed = m.passed + min step_limit (length (all_records m.inputs) - m.passed);
      kept = kept_by m.inputs (m.passed + min step_limit (length (all_records m.inputs) - m.passed));
    }

-- a merge has passed one step more
pub record Copied (m : Merging) (l new : Ledger) : Type 0 where
  pub making : l.merging ≡ Some m
  pub left : m.passed < length (all_records m.inputs)
  pub rest : new ≡ record l { merging = Some (records_passed_on m) }

-- the new segment stands in the place of the inputs
pub record Installed (m : Merging) (l new : Ledger) : Type 0 where
  pub making : l.merging ≡ Some m
  pub all : m.passed ≡ length (all_records m.inputs)
  pub users : Changes (flat_map names_of_portion (merged m.kept (settled m l.portions)))
      (flat_map names_of_portion (portion_window_now m l.portions) ++ Name.source m.number ∷ [])
      l.users new.users
  pub rest : new ≡ record l { portions = installed m l.portions; merging = None; users = new.users }

-- ---- COMMIT, SNAP and UNSNAP

-- the live sets are the same
abbrev pub same_live : List Bool → List Bool → Bool
same_live [] [] = true
same_live [] (c ∷ cs) = false
same_live (b ∷ bs) [] = false
same_live (b ∷ bs) (c ∷ cs) = cond b c (not c) && same_live bs cs

-- the file that a list has for a portion's live set: 0 where it has none
abbrev pub portion_file_in : List Listed → Portion → ℕ
portion_file_in [] p = 0
portion_file_in (x ∷ xs) p = cond ((x.portion.number == p.number) && same_live x.portion.live p.live) x.file (portion_file_in xs p)

-- no row is dead
abbrev pub all_alive : List Bool → Bool
all_alive live = list_all (λ b. b) live

-- none where all is live; else the one that has the live set, or a new one
abbrev pub portion_file_for : List Listed → ℕ → Portion → ℕ
portion_file_for xs g p = cond (all_alive p.live) 0 (cond (portion_file_in xs p == 0) g (portion_file_in xs p))

-- the portions of a commit, with their live files, if there is a commit
abbrev pub listed_in : Option LedgerCommit → List Listed
listed_in None = []
listed_in (Some c) = c.listed

-- what the newest commit lists
abbrev pub newest_listed : List LedgerCommit → List Listed
newest_listed cs = listed_in (last_or None cs)

-- the commit of now with this text, after a flush
abbrev pub commit_of : Text → Ledger → LedgerCommit
commit_of text l =
    record {
      version = Version.second;
      generation = l.next_generation;
      text = text;
      token = l.count;
      next = l.next_segment;
      listed = map (λ p. record { portion = p; file = portion_file_for (newest_listed l.commits) l.next_generation p }) l.portions;
    }

-- the commits whose generations pass the test
abbrev pub commits_that : (ℕ → Bool) → List LedgerCommit → List LedgerCommit
commits_that stays cs = filter (λ c. stays c.generation) cs

-- the commits whose generations don't
abbrev pub commits_not : (ℕ → Bool) → List LedgerCommit → List LedgerCommit
commits_not stays cs = filter (λ c. not (stays c.generation)) cs

-- the generation of the newest commit
abbrev pub newest_in : List LedgerCommit → Option ℕ
newest_in cs = newest_of (map commit_shown cs)

-- after a flush, a commit of now is kept: its names are taken, those of the commits that go are given
pub record Committed (text : Text) (l new : Ledger) : Type 0 where
  pub left : l.next_generation ≤ last_number
  pub users : Changes (names_of_commit (commit_of text l))
      (flat_map names_of_commit (commits_not (stays_kept l.taken (Some l.next_generation)) l.commits))
      l.users new.users
  pub rest : new
      ≡ record l {
        commits = commits_that (stays_kept l.taken (Some l.next_generation)) l.commits ++ commit_of text l ∷ [];
        users = new.users;
        next_generation = l.next_generation + 1;
      }

-- one snapshot more of the newest commit, which is g
pub record Snaps (g : ℕ) (l new : Ledger) : Type 0 where
  pub newest : newest_in l.commits ≡ Some g
  pub taken : (h : ℕ) → snapshots_in new.taken h ≡ snapshots_in l.taken h + cond (h == g) 1 0
  pub rest : new ≡ record l { taken = new.taken }

-- one snapshot less of g: where that was the last one and g isn't the newest, its commit goes and gives its names
pub record Unsnapped (g : ℕ) (l new : Ledger) : Type 0 where
  pub some : 0 < snapshots_in l.taken g
  pub taken : (h : ℕ) → snapshots_in new.taken h ≡ snapshots_in l.taken h - cond (h == g) 1 0
  pub users : Changes [] (flat_map names_of_commit (commits_not (stays_kept new.taken (newest_in l.commits)) l.commits)) l.users new.users
  pub rest : new
      ≡ record l { taken = new.taken; commits = commits_that (stays_kept new.taken (newest_in l.commits)) l.commits; users = new.users }

-- the files that a commit may begin
abbrev pub files_begun : Ledger → List Name
files_begun l = Name.commit l.next_generation ∷ map (λ (p : Portion). Name.live p.number l.next_generation) l.portions

-- ---- sweeps and refusals

-- The next number is the same, or one more where the file was begun that has the one before.
abbrev pub TakesOne : List Name → Name → ℕ → ℕ → Type 0
TakesOne begun q n next = (next ≡ n) ⊎ ((next ≡ n + 1) × (has_name q begun ≡ true))

-- What a refusal may leave: names that were begun are known and have no users, numbers that were taken stay taken, of each kind
-- one at most and only for a file that was begun, and nothing else changed. A sweep asks for no more: each name keeps its users,
-- and names that nobody has are known or forgotten.
pub record MayLeave (begun : List Name) (l new : Ledger) : Type 0 where
  pub known : (q : Name) → has_name q begun ≡ true → is_known new.users q ≡ true
  pub users : (q : Name) → users_of new.users q ≡ users_of l.users q
  pub segments : l.next_segment ≤ new.next_segment
  pub generations : l.next_generation ≤ new.next_generation
  pub one_segment : TakesOne begun (Name.source l.next_segment) l.next_segment new.next_segment
  pub one_generation : TakesOne begun (Name.commit l.next_generation) l.next_generation new.next_generation
  pub left : (new.next_segment ≤ last_number + 1) × (new.next_generation ≤ last_number + 1)
  pub rest : new ≡ record l { users = new.users; next_segment = new.next_segment; next_generation = new.next_generation }

-- a merge step that is refused ends the merge
pub record Ended (m : Merging) (l new : Ledger) : Type 0 where
  pub making : l.merging ≡ Some m
  pub users : Changes [] (Name.source m.number ∷ []) l.users new.users
  pub rest : new ≡ record l { merging = None; users = new.users }

-- ---- opening

-- a ledger that was opened at this commit
pub record IsOpened (c : LedgerCommit) (l : Ledger) : Type 0 where
  pub portions : l.portions ≡ portions_in c
  pub buffered : l.buffered ≡ []
  pub count : l.count ≡ c.token
  pub views : l.views ≡ recorded_view_now l ∷ []
  pub holds : l.holds ≡ []
  pub commits : l.commits ≡ c ∷ []
  pub taken : l.taken ≡ []
  pub merging : l.merging ≡ None

-- a ledger that was opened where no commit is
pub record IsEmpty (l : Ledger) : Type 0 where
  pub portions : l.portions ≡ []
  pub buffered : l.buffered ≡ []
  pub count : l.count ≡ 0
  pub views : l.views ≡ recorded_view_now l ∷ []
  pub holds : l.holds ≡ []
  pub commits : l.commits ≡ []
  pub taken : l.taken ≡ []
  pub merging : l.merging ≡ None
