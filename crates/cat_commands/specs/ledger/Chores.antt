-- What maintenance tells of a ledger, when it is refused, and which files it spares.
use Rattle.std.specs.Prelude.{ℕ, ◌≡◌, ◌≢◌, ◌⊎◌, ◌<◌, ◌≤◌, ◌==◌, Bool, false, not, None, Option, length, map, count_by}
use Rattle.std.specs.List.{list_any}
use Rattle.cat_base.specs.declared.refusal.Refusal.{Refusal}
use Rattle.cat_base.specs.declared.refusal.Refusal.TheVariants.{Damaged, Device, Memory, Spent}
use Rattle.cat_model.specs.Files.{Name}
use Rattle.cat_model.specs.Limits.{last_number}
use Rattle.cat_model.specs.Run as run
use Rattle.cat_model.specs.View.{Leaf, segments_of}
use Rattle.cat_directory.specs.Devices.{FileContent, NoMore, removed, told_after}
use Rattle.cat_directory.specs.Names.{name_of}
use Rattle.cat_directory.specs.declared.name.FileName.{FileName}
use Rattle.cat_cached_sets.specs.filters.Filters.{Filters, filters_without}
use Rattle.cat_cached_sets.specs.filters.Steps.{IsFiltersStep}
use Rattle.cat_cached_sets.specs.declared.filters.news.WarmNews.{WarmNews}
use Rattle.cat_ledger_laws.specs.model.Ledger.{IsNew}
use Rattle.cat_ledger_laws.specs.model.Plans.{MergePolicy}
use Rattle.cat_ledger_laws.specs.model.Users.{users_of}
use Rattle.cat_ledger_laws.specs.shape.Shapes.{MergingShape, Shape}
use Rattle.cat_ledger_laws.specs.shape.Ties.{ToldFiles}
use Rattle.cat_ledger.specs.cat_ledger_state.Cores.{HasRowsLeft, MayCopy}
use Rattle.cat_ledger.specs.cat_ledger_state.Installs.{IsOfMerge}
use Rattle.cat_ledger.specs.cat_lifetimes.refs.Counts.{IsPending, is_pending}
use Rattle.cat_ledger.specs.cat_lifetimes.refs.Swept.{Swept}
use Rattle.cat_ledger.specs.upkeep.Due.{IsForceDue, IsMergeDue}
use Rattle.cat_ledger.specs.Refusals.{KeepsMerge, KeepsSegments}
use Rattle.cat_ledger.specs.Ledgers.{LedgerOnDevice, device_in, shape_in}
use Rattle.cat_ledger.specs.declared.telling.SegmentStat as ledger
use Rattle.cat_protocol.specs.declared.replies.news.SegmentStat.{SegmentStat}
use Rattle.cat_commands.specs.declared.ledger.chores.Chore.{Chore}
use Rattle.cat_commands.specs.declared.ledger.chores.Chore.TheVariants.{Force, Merge, Stat, Sweep}

-- what the command asks for
abbrev pub chore_of : Chore → run.Chore
chore_of Merge = run.Chore.merge
chore_of Force = run.Chore.force
chore_of Sweep = run.Chore.sweep
chore_of Stat = run.Chore.stat

-- ---- what is told

-- what is told of a segment that the ledger tells of
abbrev pub stat_told : ledger.SegmentStat → SegmentStat
stat_told s = record { number = s.number; rows = s.rows; live = s.live }

-- and of one that stands: its number, its rows, and how many of them are live
abbrev pub segment_told : Leaf → run.SegmentStat
segment_told leaf = record { number = leaf.segment.number; rows = length leaf.segment.rows; live = count_by (λ b. b) leaf.live }

-- how many files nobody needs
abbrev pub pending_in : Shape → ℕ
pending_in s = count_by (λ u. u.users == 0) s.users

-- how the service stands, with so many sets of rows cached
abbrev pub stat_in : ℕ → Shape → run.Stat
stat_in sets s = record {
  writes = s.count;
  buffered = length s.buffered;
  views = length s.views;
  cached = sets;
  pending = pending_in s;
  segments = map segment_told s.leaves;
}

-- What is told, besides its form: SWEEP tells of all files that nobody needs, and STAT of the ledger as it stands, and of so many cached
-- sets. What merges tell is said where they are answered.
abbrev pub TellsChore : ℕ → Shape → Chore → run.Answer → Type 0
TellsChore sets s Merge a = Unit {0}
TellsChore sets s Force a = Unit {0}
TellsChore sets s Sweep a = a ≡ run.Answer.news (run.News.swept (pending_in s))
TellsChore sets s Stat a = a ≡ run.Answer.news (run.News.state (stat_in sets s))

-- what is told of a step of warming
abbrev pub warm_told : WarmNews → run.News
warm_told WarmNews.Idle = run.News.idle
warm_told WarmNews.Begun = run.News.begun_warming
warm_told (WarmNews.Warmed rows) = run.News.warmed rows
warm_told WarmNews.Stored = run.News.stored

-- WARM takes a step over the segments of the list, and tells what it did.
pub record IsWarmTold (s : Shape) (old new : Filters) (a : run.Answer) : Type 0 where
  pub news : WarmNews
  pub told : a ≡ run.Answer.news (warm_told news)
  pub step : IsFiltersStep old (segments_of s.leaves) new news

-- ---- what is left of the sets that are kept beside it

-- a segment of the list has the number
abbrev pub is_segment_listed : Shape → ℕ → Bool
is_segment_listed s n = list_any (λ l. l.segment.number == n) s.leaves

-- A MERGE gives up the set in the making where its segment isn't in the list that is left, as when the merge that took it is done. Other
-- maintenance leaves the sets as they are.
abbrev pub sets_left : Chore → Shape → Filters → Filters
sets_left Merge s f = filters_without (λ n. not (is_segment_listed s n)) f
sets_left _ s f = f

-- ---- when it is refused

-- a step of merges may be refused so: want of memory is not tied to what is due
pub record MayRefuseMerge (policy : MergePolicy) (s : Shape) (e : Refusal) : Type 0 where
  pub spent : e ≡ Spent → IsMergeDue policy s × (last_number < s.next_segment)
  pub left : (e ≡ Device) ⊎ (e ≡ Damaged) → (s.merging ≢ None) ⊎ (IsMergeDue policy s × (s.next_segment ≤ last_number))
  pub damaged : e ≡ Damaged → HasRowsLeft s.merging

-- a merge of all may be refused so, where one is to be begun
pub record MayRefuseForce (s : Shape) (e : Refusal) : Type 0 where
  pub due : IsForceDue s
  pub spent : e ≡ Spent → last_number < s.next_segment
  pub left : (e ≡ Memory) ⊎ (e ≡ Device) → s.next_segment ≤ last_number

-- Where a MERGE is told that memory was wanting, no source that it is to copy is told to be outside the file of its segment.
abbrev pub ReachesFor : Chore → ToldFiles → Option MergingShape → Type 0
ReachesFor Merge told merging = MayCopy told merging
ReachesFor chore told merging = Unit {0}

-- Maintenance that session 0 asks for may be refused so.
abbrev pub MayRefuse : MergePolicy → Shape → Chore → Refusal → Type 0
MayRefuse policy s Merge e = MayRefuseMerge policy s e
MayRefuse policy s Force e = MayRefuseForce s e
MayRefuse policy s Sweep e = (e ≡ Memory) ⊎ (e ≡ Device)
MayRefuse policy s Stat e = e ≡ Memory

-- What maintenance keeps that is refused: a MERGE and a FORCE the segments and what waits, all but a MERGE the merge in the making, and a STAT
-- all that memory has.
abbrev pub KeepsBehind : Chore → Shape → Shape → Type 0
KeepsBehind Merge s new = KeepsSegments s new
KeepsBehind Force s new = KeepsMerge s new × KeepsSegments s new
KeepsBehind Sweep s new = new.merging ≡ s.merging
KeepsBehind Stat s new = new ≡ s

-- ---- what is swept

-- What a SWEEP does to files, whether it is refused or not. The first two arguments say what a device tells of its files, and what a crash
-- may leave of them.
abbrev pub SweepsFiles : {D : Type 0} → (D → ToldFiles) → (D → FileName → FileContent → Type 0) → LedgerOnDevice D → LedgerOnDevice D → Type 0
SweepsFiles bytes left old new =
    Swept (shape_in old).users (shape_in new).users (bytes (device_in old)) (bytes (device_in new)) (left (device_in old)) (left (device_in new))

-- Behind a SWEEP with an OK nothing waits to be deleted: each file that nobody needed is gone, where the device tells of it, and no other
-- is touched. None is counted as pending any more.
pub record IsSwept {D : Type 0} (bytes : D → ToldFiles) (old new : LedgerOnDevice D) : Type 0 where
  pub none : (q : Name) → is_pending (shape_in new).users q ≡ false
  pub done : pending_in (shape_in new) ≡ 0
  pub gone : (q : FileName) → IsPending (shape_in old).users q → bytes (device_in new) q ≡ told_after removed (bytes (device_in old) q)
  pub others : (q : FileName) → is_pending (shape_in old).users (name_of q) ≡ false → bytes (device_in new) q ≡ bytes (device_in old) q

-- ---- what a crash may leave

-- A crash may leave of each file that somebody needs what it could have left before the call, but of one with a number that was not
-- taken, and of those of the merge in the making. The first argument says what a crash may leave of a device's files.
abbrev pub SparesUsed : {D : Type 0} → (D → FileName → FileContent → Type 0) → LedgerOnDevice D → LedgerOnDevice D → Type 0
SparesUsed left old new = (q : FileName) → 0 < users_of (shape_in old).users (name_of q)
    → (IsNew (shape_in old).next_segment (shape_in old).next_generation (name_of q) → ⊥)
    → (IsOfMerge (shape_in old).merging q → ⊥) → NoMore (left (device_in old) q) (left (device_in new) q)
