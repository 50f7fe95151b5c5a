-- The files that are needed.
use Rattle.std.proofs.Common.{◌≡◌, ℕ, ◌<◌, List, [], ◌∷◌, length, map, Bool, true, false, ◌&&◌, cond, Some, refl, sym, ◌∙◌, ap, subst, inl, inr}
use Rattle.std.specs.Prelude.{◌==◌, All}
use Rattle.std.specs.List.{flat_map, list_any, AllByRecursion}
use Rattle.std.specs.Option.{option_map_or}
use Rattle.std.proofs.lemmas.Bool.Decides.{eqb_tells}
use Rattle.std.proofs.lemmas.List.Elements.{All-from_recursion}
use Rattle.cat_model.specs.CommitFile.{CommitFile, SpellsCommit}
use Rattle.cat_model.specs.Files.{Name}
use Rattle.cat_model.specs.Item.{Record}
use Rattle.cat_model.specs.Layout.{SpellsSegment}
use Rattle.cat_model.specs.LiveFile.{SpellsLive}
use Rattle.cat_model.specs.Run.{Run, writes, has, holds, view_tokens, commits, commit_under, committed_at, is_kept, text_under}
use Rattle.cat_model.specs.State.{Commit, Hold, RecordedTable, IsCommitOf, StandsFor, has_hold, held_in, table_recorded, told_by}
use Rattle.cat_model.specs.Table.{Opened, CommitText, table}
use Rattle.cat_model.specs.Text.{Text}
use Rattle.cat_model.specs.View.{View}
use Rattle.cat_model.proofs.Lists.{All-weaken, All-both, All-each}
use Rattle.cat_ledger_laws.specs.model.Ledger.{Listed, Ledger, LedgerCommit, IsLedger, IsWholeCommit, RecordedView, commit_file, commit_shown, names_of_commit, names_of_listed, names_of_merging, names_of_portion, names_of_view, names_used, portions_in, state_of, view_shown}
use Rattle.cat_ledger_laws.specs.model.Portions.{Portion, records_of, segment_of}
use Rattle.cat_ledger_laws.specs.model.Stored.{FileBytes, AreStored, HasLive, IsCommitStored, IsLiveStored, IsStored, joined_sources}
use Rattle.cat_ledger_laws.specs.model.Users.{users_of, times}
use Rattle.cat_ledger_laws.proofs.model.Shown.{All-map}
use Rattle.cat_ledger_laws.proofs.model.Stored.{each_used}
use Rattle.cat_ledger_laws.proofs.model.Users.{All-split, Four, All-four}
use Rattle.cat_ledger_laws.specs.shape.Shapes.{Shape, recorded_view, names_of_views, names_of_commits}
use Rattle.cat_ledger_laws.specs.shape.Ties.{ToldFiles, IsTold, FilesAgree, Carries}
use Rattle.cat_ledger_laws.proofs.shape.Committed.{commits_named}
use Rattle.cat_ledger_laws.proofs.shape.Leaves.{any_map, views_named}
use Rattle.cat_ledger_laws.specs.lines.NeededLaws.{IsThere, SegmentStands, LiveStands, ViewStands, CommitStands, NeededFilesStand, IsFileKept, NeededNamesStand, TokenStands, GenerationStands, PromisedStand, PromisedFilesStand}
use Rattle.cat_ledger_laws.proofs.lines.Found.{some_that, any_weaker, All-unmap, All-and}

-- ---- what stands for a ledger

abbrev Used : Ledger → Name → Type 0
Used l q = 0 < users_of l.users q

-- each name that the ledger uses has a user
names_have_users : (l : Ledger) → IsLedger l → Four (Used l) (flat_map names_of_portion l.portions) (flat_map names_of_view l.views) (flat_map names_of_commit l.commits) (names_of_merging l.merging)
names_have_users l ok =
    All-four (Used l) (flat_map names_of_portion l.portions) (flat_map names_of_view l.views) (flat_map names_of_commit l.commits) (names_of_merging l.merging)
    (All-weaken (λ q. 0 < times q (names_used l)) (Used l) (λ q h. subst (λ n. 0 < n) (sym (ok.users q)) h) (names_used l) (each_used [] (names_used l)))

-- a live set has one value for each record
abbrev IsLong : Portion → Type 0
IsLong p = length p.live ≡ length p.records

abbrev AreLong : LedgerCommit → Type 0
AreLong c = AllByRecursion IsLong (portions_in c)

all_long : (l : Ledger) → IsLedger l → AllByRecursion AreLong l.commits
all_long l ok = All-weaken (IsWholeCommit l.schema l.count) AreLong (λ c w. w.1.portions.lengths) l.commits ok.commits

module _ (told : ToldFiles) (l : Ledger) (files : FileBytes) (agrees : FilesAgree told files) where
  there : (q : Name) (is_so : Text → Type 0) (bytes : Text) → Used l q → files q ≡ Some bytes → is_so bytes → IsThere told l.users q is_so
  there q is_so bytes used stands so = record { used = used; there = λ content e. (bytes, subst (λ t. IsTold t (files q)) e (agrees q) ∙ stands, so) }

  segment : (p : Portion) → AllByRecursion (Used l) (names_of_portion p) → IsStored files l.schema p → SegmentStands told l.users l.schema p
  segment p used h = record {
    segment = there (Name.segment p.number) (λ bytes. SpellsSegment bytes (segment_of l.schema p)) h.segment.bytes used.0 h.segment.there h.segment.spelled;
    source = there (Name.source p.number) (λ bytes. bytes ≡ joined_sources p.records) (joined_sources p.records) used.1.0 h.source refl;
  }

  segments : (ps : List Portion) → AllByRecursion (Used l) (flat_map names_of_portion ps) → AllByRecursion (IsStored files l.schema) ps → AllByRecursion (SegmentStands told l.users l.schema) ps
  segments [] used h = tt
  segments (p ∷ ps) used h = (segment p (used.0, (used.1.0, tt)) h.0, segments ps used.1.1 h.1)

  views : (vs : List RecordedView) → AllByRecursion (Used l) (flat_map names_of_view vs) → AllByRecursion (λ (v : RecordedView). AllByRecursion (IsStored files l.schema) v.portions) vs
      → AllByRecursion (λ (v : RecordedView). ViewStands told l.users (recorded_view l.schema v) (records_of v.portions)) vs
  views [] used h = tt
  views (v ∷ vs) used h =
      let r = All-split (Used l) (names_of_view v) (flat_map names_of_view vs) used in
      (record { portions = v.portions; seen = refl; segments = segments v.portions r.0 h.0; table = refl }, views vs r.1 h.1)

  live_by : (x : Listed) (b : Bool) → AllByRecursion (Used l) (cond b [] (Name.live x.portion.number x.file ∷ [])) → cond b (AllByRecursion (λ c. c ≡ true) x.portion.live) (IsLiveStored files x)
      → cond b (AllByRecursion (λ c. c ≡ true) x.portion.live) (IsThere told l.users (Name.live x.portion.number x.file) (λ bytes. SpellsLive bytes (record { number = x.portion.number; generation = x.file; live = x.portion.live })))
  live_by x true used h = h
  live_by x false used h = there (Name.live x.portion.number x.file) (λ bytes. SpellsLive bytes (record { number = x.portion.number; generation = x.file; live = x.portion.live })) h.bytes used.0 h.there h.spelled

  listed : (xs : List Listed) → AllByRecursion (Used l) (flat_map names_of_listed xs) → AllByRecursion (λ (x : Listed). IsStored files l.schema x.portion) xs
      → AllByRecursion (λ (x : Listed). SegmentStands told l.users l.schema x.portion) xs
  listed [] used h = tt
  listed (x ∷ xs) used h =
      let r = All-split (Used l) (names_of_listed x) (flat_map names_of_listed xs) used in
      (segment x.portion (r.0.0, (r.0.1.0, tt)) h.0, listed xs r.1 h.1)

  lives : (xs : List Listed) → AllByRecursion (Used l) (flat_map names_of_listed xs) → AllByRecursion (HasLive files) xs → AllByRecursion (LiveStands told l.users) xs
  lives [] used h = tt
  lives (x ∷ xs) used h =
      let r = All-split (Used l) (names_of_listed x) (flat_map names_of_listed xs) used in
      (live_by x (x.file == 0) r.0.1.1 h.0, lives xs r.1 h.1)

  commit : (c : LedgerCommit) → AllByRecursion IsLong (portions_in c) → AllByRecursion (Used l) (names_of_commit c) → IsCommitStored files l.schema c → CommitStands told l.users (commit_file l.schema c) (records_of (portions_in c))
  commit c long used h = record {
    listed = c.listed;
    lists = refl;
    file = there (Name.commit c.generation) (λ bytes. SpellsCommit bytes (commit_file l.schema c)) h.commit.bytes used.0 h.commit.there h.commit.spelled;
    segments = listed c.listed used.1 h.portions;
    live = lives c.listed used.1 h.live;
    lengths = All-unmap IsLong (λ (x : Listed). x.portion) c.listed long;
    table = refl;
  }

  kept : (cs : List LedgerCommit) → AllByRecursion AreLong cs → AllByRecursion (Used l) (flat_map names_of_commit cs) → AllByRecursion (IsCommitStored files l.schema) cs
      → AllByRecursion (λ (c : LedgerCommit). CommitStands told l.users (commit_file l.schema c) (records_of (portions_in c))) cs
  kept [] long used h = tt
  kept (c ∷ cs) long used h =
      let r = All-split (Used l) (names_of_commit c) (flat_map names_of_commit cs) used in
      (commit c long.0 r.0 h.0, kept cs long.1 r.1 h.1)

  -- ---- by names

  named : (q : Name) (is_so : Text → Type 0) → IsThere told l.users q is_so → IsFileKept told l.users q
  named q is_so h = record { used = h.used; there = λ content e. let x = h.there content e in (x.0, x.1, tt) }

  segments_named : (ps : List Portion) → AllByRecursion (SegmentStands told l.users l.schema) ps → AllByRecursion (IsFileKept told l.users) (flat_map names_of_portion ps)
  segments_named [] h = tt
  segments_named (p ∷ ps) h = (
    named (Name.segment p.number) (λ bytes. SpellsSegment bytes (segment_of l.schema p)) h.0.segment,
    (named (Name.source p.number) (λ bytes. bytes ≡ joined_sources p.records) h.0.source, segments_named ps h.1),
  )

  listed_named : (xs : List Listed) → AllByRecursion (λ (x : Listed). SegmentStands told l.users l.schema x.portion) xs → AllByRecursion (LiveStands told l.users) xs → AllByRecursion (IsFileKept told l.users) (flat_map names_of_listed xs)
  listed_named [] h k = tt
  listed_named (x ∷ xs) h k =
      All-both (IsFileKept told l.users) (names_of_listed x) (flat_map names_of_listed xs)
      (named (Name.segment x.portion.number) (λ bytes. SpellsSegment bytes (segment_of l.schema x.portion)) h.0.segment, (named (Name.source x.portion.number) (λ bytes. bytes ≡ joined_sources x.portion.records) h.0.source, live_named (x.file == 0) k.0))
      (listed_named xs h.1 k.1)
    where
      live_named : (b : Bool)
          → cond b (AllByRecursion (λ c. c ≡ true) x.portion.live) (IsThere told l.users (Name.live x.portion.number x.file) (λ bytes. SpellsLive bytes (record { number = x.portion.number; generation = x.file; live = x.portion.live })))
          → AllByRecursion (IsFileKept told l.users) (cond b [] (Name.live x.portion.number x.file ∷ []))
      live_named true h = tt
      live_named false h = (named (Name.live x.portion.number x.file) (λ bytes. SpellsLive bytes (record { number = x.portion.number; generation = x.file; live = x.portion.live })) h, tt)

  views_kept : (vs : List RecordedView) → AllByRecursion (Used l) (flat_map names_of_view vs) → AllByRecursion (λ (v : RecordedView). AllByRecursion (IsStored files l.schema) v.portions) vs
      → AllByRecursion (IsFileKept told l.users) (flat_map names_of_view vs)
  views_kept [] used h = tt
  views_kept (v ∷ vs) used h =
      let r = All-split (Used l) (names_of_view v) (flat_map names_of_view vs) used in
      All-both (IsFileKept told l.users) (names_of_view v) (flat_map names_of_view vs) (segments_named v.portions (segments v.portions r.0 h.0)) (views_kept vs r.1 h.1)

  commits_kept : (cs : List LedgerCommit) → AllByRecursion AreLong cs → AllByRecursion (Used l) (flat_map names_of_commit cs) → AllByRecursion (IsCommitStored files l.schema) cs
      → AllByRecursion (IsFileKept told l.users) (flat_map names_of_commit cs)
  commits_kept [] long used h = tt
  commits_kept (c ∷ cs) long used h =
      let r = All-split (Used l) (names_of_commit c) (flat_map names_of_commit cs) used in
      let k = commit c long.0 r.0 h.0 in
      All-both (IsFileKept told l.users) (names_of_commit c) (flat_map names_of_commit cs)
      (named (Name.commit c.generation) (λ bytes. SpellsCommit bytes (commit_file l.schema c)) k.file, listed_named c.listed (listed c.listed r.0.1 h.0.portions) (lives c.listed r.0.1 h.0.live))
      (commits_kept cs long.1 r.1 h.1)

-- ---- of what memory has

pub needed_files_stand : NeededFilesStand
needed_files_stand told s l files c =
    let four = names_have_users l c.sound in
    let is_view : View → Type 0 = λ view. (rs : List Record) × ViewStands told l.users view rs in
    let is_commit : CommitFile → Type 0 = λ commit. (rs : List Record) × CommitStands told l.users commit rs in
    let vs : AllByRecursion (λ (v : RecordedView). is_view (recorded_view l.schema v)) l.views =
    All-weaken (λ (v : RecordedView). ViewStands told l.users (recorded_view l.schema v) (records_of v.portions)) (λ (v : RecordedView). is_view (recorded_view l.schema v)) (λ v h. (records_of v.portions, h)) l.views (views told l files c.agrees l.views four.views c.stored.views) in
    let cs : AllByRecursion (λ (x : LedgerCommit). is_commit (commit_file l.schema x)) l.commits =
    All-weaken (λ (x : LedgerCommit). CommitStands told l.users (commit_file l.schema x) (records_of (portions_in x))) (λ (x : LedgerCommit). is_commit (commit_file l.schema x)) (λ x h. (records_of (portions_in x), h)) l.commits (kept told l files c.agrees l.commits (all_long l c.sound) four.commits c.stored.commits) in
    subst (λ (s : Shape). All (λ view. (rs : List Record) × ViewStands told s.users view rs) s.views × All (λ commit. (rs : List Record) × CommitStands told s.users commit rs) s.commits) c.shape (
      All-from_recursion is_view (map (recorded_view l.schema) l.views) (All-map is_view (recorded_view l.schema) l.views vs),
      All-from_recursion is_commit (map (commit_file l.schema) l.commits) (All-map is_commit (commit_file l.schema) l.commits cs),
    )

pub needed_names_stand : NeededNamesStand
needed_names_stand told s l files c =
    let four = names_have_users l c.sound in
    subst (λ (s : Shape). All (IsFileKept told s.users) (names_of_views s.views) × All (IsFileKept told s.users) (names_of_commits s.commits)) c.shape (
      All-from_recursion (IsFileKept told l.users) (names_of_views (map (recorded_view l.schema) l.views))
          (subst (λ ns. AllByRecursion (IsFileKept told l.users) ns) (sym (views_named l.schema l.views)) (views_kept told l files c.agrees l.views four.views c.stored.views)),
      All-from_recursion (IsFileKept told l.users) (names_of_commits (map (commit_file l.schema) l.commits))
          (subst (λ ns. AllByRecursion (IsFileKept told l.users) ns) (sym (commits_named l.schema l.commits)) (commits_kept told l files c.agrees l.commits (all_long l c.sound) four.commits c.stored.commits)),
    )

-- ---- of a run

equals : (a b : ℕ) → (a == b) ≡ true → a ≡ b
equals a b h = elim (eqb_tells a b) [ inl e ↦ e.1 | inr e ↦ absurd (let no : false ≡ true = sym e.0 ∙ h in cc) ]

and_second : (a b : Bool) → (a && b) ≡ true → b ≡ true
and_second true b h = h
and_second false b h = absurd (let no : false ≡ true = h in cc)

module _ (told : ToldFiles) (from : Opened) (run : Run) (l : Ledger) (files : FileBytes) (agrees : FilesAgree told files) (ok : IsLedger l) (stored : AreStored files l) (stands : StandsFor from run (state_of l)) where
  -- the table of each view is the run's
  tables : AllByRecursion (λ (v : RecordedView). records_of v.portions ≡ table from.start (writes run) v.token) l.views
  tables =
      All-unmap (λ (v : RecordedTable). v.table ≡ table from.start (writes run) v.token) view_shown l.views
      (subst (λ vs. AllByRecursion (λ (v : RecordedTable). v.table ≡ table from.start (writes run) v.token) vs) (sym stands.shows.views_now)
      (All-map (λ (v : RecordedTable). v.table ≡ table from.start (writes run) v.token) (table_recorded from.start run) (view_tokens from.start run)
      (All-each (λ (t : ℕ). table from.start (writes run) t ≡ table from.start (writes run) t) (λ t. refl) (view_tokens from.start run))))

  -- a view that is recorded
  recorded_stands : (t : ℕ) → list_any (λ (v : RecordedView). v.token == t) l.views ≡ true → TokenStands told l.users from run t
  recorded_stands t h =
      let x = some_that (λ (v : RecordedView). ViewStands told l.users (recorded_view l.schema v) (records_of v.portions) × (records_of v.portions ≡ table from.start (writes run) v.token)) (λ (v : RecordedView). v.token == t) l.views
      (All-and (λ (v : RecordedView). ViewStands told l.users (recorded_view l.schema v) (records_of v.portions)) (λ (v : RecordedView). records_of v.portions ≡ table from.start (writes run) v.token) l.views (views told l files agrees l.views (names_have_users l ok).views stored.views) tables) h in
      let is : x.0.token ≡ t = equals x.0.token t x.2 in
      (recorded_view l.schema x.0, is, subst (ViewStands told l.users (recorded_view l.schema x.0)) (x.1.1 ∙ ap (table from.start (writes run)) is) x.1.0)

  tokens_told : (t : ℕ) → list_any (λ (v : RecordedView). v.token == t) l.views ≡ has (view_tokens from.start run) t
  tokens_told t =
      sym (any_map view_shown (λ (v : RecordedTable). v.token == t) l.views)
      ∙ ap (list_any (λ (v : RecordedTable). v.token == t)) stands.shows.views_now
      ∙ any_map (table_recorded from.start run) (λ (v : RecordedTable). v.token == t) (view_tokens from.start run)

  held_stands : (session t : ℕ) → holds session t run ≡ true → TokenStands told l.users from run t
  held_stands session t h =
      let had : has_hold l.holds session t ≡ true = stands.shows.holds_now session t ∙ h in
      let held : held_in l.holds t ≡ true = any_weaker (λ (x : Hold). (x.session == session) && (x.token == t)) (λ (x : Hold). x.token == t) (λ x e. and_second (x.session == session) (x.token == t) e) l.holds had in
      recorded_stands t (sym (any_map view_shown (λ (v : RecordedTable). v.token == t) l.views) ∙ ok.sound.held t held)

  commit_stands : (g : ℕ) → is_kept from run g ≡ true → GenerationStands told l.users from run g
  commit_stands g h =
      let is_told : LedgerCommit → Type 0 = λ c. (commit_under (commits from run) c.generation ≡ Some (told_by (commit_shown c))) × (committed_at from run c.generation ≡ Some c.token) in
      let is_of : LedgerCommit → Type 0 = λ c. CommitStands told l.users (commit_file l.schema c) (records_of (portions_in c)) × (IsCommitOf from.start run (commit_shown c) × is_told c) in
      let all : AllByRecursion is_of l.commits =
      All-and (λ (c : LedgerCommit). CommitStands told l.users (commit_file l.schema c) (records_of (portions_in c))) (λ (c : LedgerCommit). IsCommitOf from.start run (commit_shown c) × is_told c) l.commits
      (kept told l files agrees l.commits (all_long l ok) (names_have_users l ok).commits stored.commits)
      (All-and (λ (c : LedgerCommit). IsCommitOf from.start run (commit_shown c)) is_told l.commits
      (All-unmap (IsCommitOf from.start run) commit_shown l.commits stands.keeps.tables)
      (All-and (λ (c : LedgerCommit). commit_under (commits from run) c.generation ≡ Some (told_by (commit_shown c))) (λ (c : LedgerCommit). committed_at from run c.generation ≡ Some c.token) l.commits
      (All-unmap (λ (c : Commit). commit_under (commits from run) c.generation ≡ Some (told_by c)) commit_shown l.commits stands.keeps.texts)
      (All-unmap (λ (c : Commit). committed_at from run c.generation ≡ Some c.token) commit_shown l.commits stands.keeps.reaches))) in
      let has_one : list_any (λ (c : LedgerCommit). g == c.generation) l.commits ≡ true = sym (any_map commit_shown (λ (c : Commit). g == c.generation) l.commits) ∙ stands.keeps.kept g ∙ h in
      let x = some_that is_of (λ (c : LedgerCommit). g == c.generation) l.commits all has_one in
      let is : g ≡ x.0.generation = equals g x.0.generation x.2 in record {
        commit = commit_file l.schema x.0;
        generation = sym is;
        text = sym (ap (text_under (commits from run)) is ∙ ap (λ o. option_map_or (λ (c : CommitText). c.text) o []) x.1.1.1.0);
        reaches = ap (committed_at from run) is ∙ x.1.1.1.1;
        so_far = x.1.1.0.reached;
        stands = subst (CommitStands told l.users (commit_file l.schema x.0)) x.1.1.0.table x.1.0;
      }

  promised : PromisedStand told l.users from run
  promised = record { recorded = λ t h. recorded_stands t (tokens_told t ∙ h); held = held_stands; kept = commit_stands }

pub promised_files_stand : PromisedFilesStand
promised_files_stand told s from run stands =
    let c : Carries told s stands.ledger stands.files = stands.carries in
    subst (λ (s : Shape). PromisedStand told s.users from run) c.shape (promised told from run stands.ledger stands.files c.agrees c.sound c.stored stands.stands)
