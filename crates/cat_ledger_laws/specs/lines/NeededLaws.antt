-- The law of the files that are needed: each stands with its bytes, and each view and each commit has its table in them.
use Rattle.std.specs.Prelude.{◌≡◌, ℕ, ◌<◌, ◌≤◌, ◌==◌, true, List, length, map, cond, Some, All}
use Rattle.std.specs.List.{AllByRecursion}
use Rattle.cat_model.specs.CommitFile.{CommitFile, SpellsCommit}
use Rattle.cat_model.specs.Files.{Name}
use Rattle.cat_model.specs.Item.{Schema, Record}
use Rattle.cat_model.specs.Layout.{SpellsSegment}
use Rattle.cat_model.specs.LiveFile.{SpellsLive}
use Rattle.cat_model.specs.Run.{Run, writes, now, has, holds, view_tokens, commits, committed_at, is_kept, text_under}
use Rattle.cat_model.specs.Table.{Opened, table}
use Rattle.cat_model.specs.Text.{Text}
use Rattle.cat_model.specs.View.{View}
use Rattle.cat_directory.specs.Devices.{FileContent}
use Rattle.cat_ledger_laws.specs.model.Ledger.{Listed, Ledger, listed_segment}
use Rattle.cat_ledger_laws.specs.model.Portions.{Portion, records_of, segment_of, view_of}
use Rattle.cat_ledger_laws.specs.model.Stored.{FileBytes, joined_sources}
use Rattle.cat_ledger_laws.specs.model.Users.{Used, users_of}
use Rattle.cat_ledger_laws.specs.shape.Shapes.{Shape, names_of_views, names_of_commits}
use Rattle.cat_ledger_laws.specs.shape.Ties.{file_of, ToldFiles, Carries}
use Rattle.cat_ledger_laws.specs.lines.RunLaws.{Stands}

-- ---- files with their bytes

-- The file has a user, so that no sweep takes it; and where the device tells of it, it is there, with bytes that are so.
pub record IsThere (told : ToldFiles) (users : List Used) (q : Name) (is_so : Text → Type 0) : Type 0 where
  pub used : 0 < users_of users q
  pub there : (content : FileContent) → told (file_of q) ≡ Some content → (bytes : Text) × (content ≡ Some bytes) × is_so bytes

-- A segment's files stand: one has its rows, the other the sources of its records, one behind another.
pub record SegmentStands (told : ToldFiles) (users : List Used) (schema : Schema) (p : Portion) : Type 0 where
  pub segment : IsThere told users (Name.segment p.number) (λ bytes. SpellsSegment bytes (segment_of schema p))
  pub source : IsThere told users (Name.source p.number) (λ bytes. bytes ≡ joined_sources p.records)

-- the live set of a segment of a commit stands in its file; where it has none, all is live
abbrev pub LiveStands : ToldFiles → List Used → Listed → Type 0
LiveStands told users x =
    cond (x.file == 0)
    (AllByRecursion (λ b. b ≡ true) x.portion.live)
    (IsThere told users (Name.live x.portion.number x.file)
    (λ bytes. SpellsLive bytes (record { number = x.portion.number; generation = x.file; live = x.portion.live })))

-- The files of the view's segments stand, and their live records are these.
pub record ViewStands (told : ToldFiles) (users : List Used) (view : View) (rs : List Record) : Type 0 where
  pub portions : List Portion
  pub seen : view ≡ view_of view.schema view.token portions
  pub segments : AllByRecursion (SegmentStands told users view.schema) portions
  pub table : records_of portions ≡ rs

-- The commit's own file stands, and those of its segments and of their live sets, which have a value for each record; and their live
-- records are these.
pub record CommitStands (told : ToldFiles) (users : List Used) (commit : CommitFile) (rs : List Record) : Type 0 where
  pub listed : List Listed
  pub lists : commit.segments ≡ map listed_segment listed
  pub file : IsThere told users (Name.commit commit.generation) (λ bytes. SpellsCommit bytes commit)
  pub segments : AllByRecursion (λ x. SegmentStands told users commit.schema x.portion) listed
  pub live : AllByRecursion (LiveStands told users) listed
  pub lengths : AllByRecursion (λ x. length x.portion.live ≡ length x.portion.records) listed
  pub table : records_of (map (λ x. x.portion) listed) ≡ rs

-- ---- of what memory has

-- each recorded view, held or not, and each kept commit stands
abbrev pub NeededFilesStand : Type 0
NeededFilesStand =
    (told : ToldFiles) (s : Shape) (l : Ledger) (files : FileBytes) → Carries told s l files
    → All (λ view. (rs : List Record) × ViewStands told s.users view rs) s.views
    × All (λ commit. (rs : List Record) × CommitStands told s.users commit rs) s.commits

-- the file has a user, and is there where the device tells of it
abbrev pub IsFileKept : ToldFiles → List Used → Name → Type 0
IsFileKept told users q = IsThere told users q (λ bytes. Unit {0})

-- so with each name that one of them needs
abbrev pub NeededNamesStand : Type 0
NeededNamesStand =
    (told : ToldFiles) (s : Shape) (l : Ledger) (files : FileBytes) → Carries told s l files
    → All (IsFileKept told s.users) (names_of_views s.views) × All (IsFileKept told s.users) (names_of_commits s.commits)

-- ---- of a run

-- the files of a view of the token stand, and have the run's table at it
abbrev pub TokenStands : ToldFiles → List Used → Opened → Run → ℕ → Type 0
TokenStands told users from run t =
    (view : View) × (view.token ≡ t) × ViewStands told users view (table from.start (writes run) t)

-- The files of a commit of the generation stand, with its text. Its token is the number of writes that were accepted before the COMMIT
-- that made it, or of those that the opened one has; and the files have the run's table at it.
pub record GenerationStands (told : ToldFiles) (users : List Used) (from : Opened) (run : Run) (g : ℕ) : Type 0 where
  pub commit : CommitFile
  pub generation : commit.generation ≡ g
  pub text : commit.text ≡ text_under (commits from run) g
  pub reaches : committed_at from run g ≡ Some commit.token
  pub so_far : commit.token ≤ now from.start run
  pub stands : CommitStands told users commit (table from.start (writes run) commit.token)

-- The files stand of each token that is recorded, also by a session's hold, and of each commit that is kept, also by a snapshot.
pub record PromisedStand (told : ToldFiles) (users : List Used) (from : Opened) (run : Run) : Type 0 where
  pub recorded : (t : ℕ) → has (view_tokens from.start run) t ≡ true → TokenStands told users from run t
  pub held : (session t : ℕ) → holds session t run ≡ true → TokenStands told users from run t
  pub kept : (g : ℕ) → is_kept from run g ≡ true → GenerationStands told users from run g

-- so they do whatever run led here
abbrev pub PromisedFilesStand : Type 0
PromisedFilesStand =
    (told : ToldFiles) (s : Shape) (from : Opened) (run : Run) → Stands told s from run → PromisedStand told s.users from run
