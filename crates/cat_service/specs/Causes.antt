-- Why a line is refused where an OK would fit, and what COMMIT and maintenance tell, by what memory has.
use Rattle.std.specs.Prelude.{◌≡◌, ◌≢◌, ◌⊎◌, ℕ, ◌+◌, ◌*◌, ◌<◌, ◌≤◌, Bool, true, false, Option, Some, Ok, Err, IfErr, length}
use Rattle.cat_base.specs.declared.refusal.Refusal.{Refusal}
use Rattle.cat_base.specs.declared.refusal.Refusal.TheVariants.{Damaged, Device, Memory, Spent}
use Rattle.cat_model.specs.Heard.{commit_text_of}
use Rattle.cat_model.specs.Limits.{buffer_limit, last_number}
use Rattle.cat_model.specs.Lines.{Said}
use Rattle.cat_model.specs.Run.{Answer, Chore, News, Reply}
use Rattle.cat_model.specs.Text.{Text}
use Rattle.cat_model.specs.View.{View}
use Rattle.cat_directory.specs.Devices.{CountsOne}
use Rattle.cat_commands.specs.ledger.Chores.{IsSwept, IsWarmTold, pending_in, stat_in}
use Rattle.cat_commands.specs.cat_cached_sets.filters.Filters.{Filters}
use Rattle.cat_commands.specs.cat_ledger.Ledgers.{LedgerOnDevice}
use Rattle.cat_commands.specs.cat_ledger.Refusals.{KeepsMerge, KeepsSegments}
use Rattle.cat_commands.specs.cat_ledger_state.Cores.{HasRowsLeft, LacksInput, LacksToCopy, MayCopy, MayNotFlush}
use Rattle.cat_ledger_laws.specs.lines.PlanLaws.{TellsForce, TellsMerge}
use Rattle.cat_ledger_laws.specs.lines.ReadLaws.{IsRecordedAs}
use Rattle.cat_ledger_laws.specs.lines.StayLaws.{IsOneMoreAtMost}
use Rattle.cat_ledger_laws.specs.model.Plans.{MergePolicy}
use Rattle.cat_ledger_laws.specs.shape.Shapes.{Shape}
use Rattle.cat_ledger_laws.specs.shape.Ties.{ToldFiles}
use Rattle.cat_commands.specs.cat_protocol.cat_views.Sources.{HoldsSource, MayReachSource, TellsSource}
use Rattle.cat_commands.specs.cat_ledger.upkeep.Due.{IsForceDue, IsMergeDue}
use Rattle.cat_service.specs.Worlds.{Service, device_of, policy_of, shape_of_service}

-- ---- refusals

-- A number or a limit is spent that the line asks for. A PUT asks for the number of the write, and where as many items wait as may for
-- what a flush asks for: the number of a segment, and a place among those that stand. So does a REFRESH where some wait, and a COMMIT, which
-- asks for a generation too; a MERGE and a FORCE that are to begin a merge ask for the number of its segment. When another line is told
-- that a number is spent, the run says.
abbrev pub IsSpentTo : MergePolicy → Shape → Option Said → Type 0
IsSpentTo policy s (Some (Said.put text)) = (last_number ≤ s.count) ⊎ ((buffer_limit ≤ length s.buffered) × MayNotFlush s)
IsSpentTo policy s (Some Said.refresh) = MayNotFlush s
IsSpentTo policy s (Some (Said.commit text)) = (last_number < s.next_generation) ⊎ MayNotFlush s
IsSpentTo policy s (Some (Said.chore Chore.merge)) = IsMergeDue policy s × (last_number < s.next_segment)
IsSpentTo policy s (Some (Said.chore Chore.force)) = IsForceDue s × (last_number < s.next_segment)
IsSpentTo policy s said = Unit {0}

-- The device can fail. No run has another line with that refusal.
abbrev pub MayFailTo : {D : Type 0} → (D → Type 0) → D → Shape → Option Said → Type 0
MayFailTo can_fail device s (Some (Said.put text)) = can_fail device
MayFailTo can_fail device s (Some Said.refresh) = can_fail device
MayFailTo can_fail device s (Some (Said.get t id)) = can_fail device
MayFailTo can_fail device s (Some (Said.commit text)) = can_fail device
MayFailTo can_fail device s (Some (Said.chore Chore.merge)) = can_fail device
MayFailTo can_fail device s (Some (Said.chore Chore.force)) = can_fail device
MayFailTo can_fail device s (Some (Said.chore Chore.sweep)) = can_fail device
MayFailTo can_fail device s said = Unit {0}

-- one of the device's calls failed, and was counted, where the line is one that a run has with that refusal
abbrev pub IsCountedTo : Type 0 → Option Said → Type 0
IsCountedTo counted (Some (Said.put text)) = counted
IsCountedTo counted (Some Said.refresh) = counted
IsCountedTo counted (Some (Said.get t id)) = counted
IsCountedTo counted (Some (Said.commit text)) = counted
IsCountedTo counted (Some (Said.chore Chore.merge)) = counted
IsCountedTo counted (Some (Said.chore Chore.force)) = counted
IsCountedTo counted (Some (Said.chore Chore.sweep)) = counted
IsCountedTo counted said = Unit {0}

-- To a GET: the files that the device tells of don't hold the text that the view has of the item. To a MERGE: it is to copy rows, one of the
-- sources isn't in the file of its segment, and the file of a segment that it takes lacks bytes, where these are told. No run has another line
-- with that refusal.
abbrev pub IsDamagedTo : ToldFiles → Shape → Option Said → Type 0
IsDamagedTo told s (Some (Said.get t id)) =
    (view : View) → IsRecordedAs s.views t view → (files : ℕ → Text) → TellsSource told files view id → HoldsSource files view id → ⊥
IsDamagedTo told s (Some (Said.chore Chore.merge)) = HasRowsLeft s.merging × LacksToCopy told s.merging × LacksInput told s.merging
IsDamagedTo told s said = Unit {0}

-- To a GET, that memory was wanting: the device doesn't tell that the file with the source of the item's live row is absent, nor that it ends
-- before the source does. To a MERGE: nor is that so of a source that its step is to copy.
abbrev pub MayReachTo : ToldFiles → Shape → Option Said → Type 0
MayReachTo told s (Some (Said.get t id)) = (view : View) → IsRecordedAs s.views t view → MayReachSource told view id
MayReachTo told s (Some (Said.chore Chore.merge)) = MayCopy told s.merging
MayReachTo told s said = Unit {0}

-- ---- answers

-- A COMMIT tells the generation that comes next; a SWEEP how many files nobody needs; a STAT how the ledger stands, and how many sets are
-- cached; a WARM what its step did, by the sets that there were and those that it left; and a MERGE and a FORCE what is so of the segments
-- that stand and of the merge in the making.
abbrev pub TellsSo : MergePolicy → Shape → Filters → Filters → Option Said → Reply → Type 0
TellsSo policy s sets left (Some (Said.commit text)) (Ok (Answer.number g)) = g ≡ s.next_generation
TellsSo policy s sets left (Some (Said.chore Chore.merge)) (Ok (Answer.news n)) = TellsMerge policy s n
TellsSo policy s sets left (Some (Said.chore Chore.force)) (Ok (Answer.news n)) = TellsForce s n
TellsSo policy s sets left (Some (Said.chore Chore.warm)) (Ok a) = IsWarmTold s sets left a
TellsSo policy s sets left (Some (Said.chore Chore.sweep)) (Ok (Answer.news n)) = n ≡ News.swept (pending_in s)
TellsSo policy s sets left (Some (Said.chore Chore.stat)) (Ok (Answer.news n)) = n ≡ News.state (stat_in (length sets.cached) s)
TellsSo policy s sets left said reply = Unit {0}

-- behind a SWEEP that is answered nothing waits to be deleted, and what did is gone
abbrev pub SweepsSo : {D : Type 0} → (D → ToldFiles) → LedgerOnDevice D → LedgerOnDevice D → Option Said → Reply → Type 0
SweepsSo bytes old new (Some (Said.chore Chore.sweep)) (Ok a) = IsSwept bytes old new
SweepsSo bytes old new said reply = Unit {0}

-- ---- of a world

-- a COMMIT whose text no commit may have changes nothing
abbrev pub StaysIfWrong : {D : Type 0} → Option Said → LedgerOnDevice D → LedgerOnDevice D → Type 0
StaysIfWrong (Some (Said.commit text)) old new = IfErr (commit_text_of text) (λ e. new ≡ old)
StaysIfWrong said old new = Unit {0}

-- What a refused line keeps: a PUT, a REFRESH, a COMMIT and a FORCE the merge in the making, with what it has passed; a MERGE and a FORCE the
-- segments, with the rows that are live in them, and what waits; and each of them every name that a sweep is to delete.
abbrev pub KeepsIfRefused : Option Said → Reply → Shape → Shape → Type 0
KeepsIfRefused (Some (Said.put text)) (Err e) s new = KeepsMerge s new
KeepsIfRefused (Some Said.refresh) (Err e) s new = KeepsMerge s new
KeepsIfRefused (Some (Said.commit text)) (Err e) s new = KeepsMerge s new
KeepsIfRefused (Some (Said.chore Chore.merge)) (Err e) s new = KeepsSegments s new
KeepsIfRefused (Some (Said.chore Chore.force)) (Err e) s new = KeepsMerge s new × KeepsSegments s new
KeepsIfRefused said reply s new = Unit {0}

-- a line that says so may begin a file, or let one go
abbrev pub may_move : Option Said → Bool
may_move (Some (Said.put text)) = true
may_move (Some Said.refresh) = true
may_move (Some (Said.commit text)) = true
may_move (Some (Said.release_snapshot g)) = true
may_move (Some (Said.prune n)) = true
may_move (Some (Said.chore Chore.merge)) = true
may_move (Some (Said.chore Chore.force)) = true
may_move (Some (Said.chore Chore.sweep)) = true
may_move said = false

-- The reply has its cause in the world: 16 where a number or a limit is spent, 30 where the device can fail and its count of failures rose, 31
-- where a file is damaged, 40 where no failure was counted, and to a GET and to a MERGE where no file is gone or short that they read, and the
-- news as they are. Behind a SWEEP with an OK what waited is gone. No failure is forgotten, whatever is told; a COMMIT that is refused for its
-- text changes nothing; what another refused line keeps is kept; no refused line but a MERGE ends the merge in the making; and one that moves
-- no file leaves all that memory has of the ledger. The first three arguments say what a device tells of its files, whether it can fail, and how
-- many failures it has counted.
pub record HasCause {D : Type 0} (bytes : D → ToldFiles) (can_fail : D → Type 0) (faults : D → ℕ) (old : Service D) (said : Option Said)
    (reply : Reply) (new : Service D) : Type 0 where
  pub spent : reply ≡ Err Spent → IsSpentTo (policy_of old) (shape_of_service old) said
  pub device : reply ≡ Err Device → MayFailTo can_fail (device_of old) (shape_of_service old) said
  pub counted : reply ≡ Err Device → IsCountedTo (CountsOne (faults (device_of old)) (faults (device_of new))) said
  pub damaged : reply ≡ Err Damaged → IsDamagedTo (bytes (device_of old)) (shape_of_service old) said
  pub reached : reply ≡ Err Memory → MayReachTo (bytes (device_of old)) (shape_of_service old) said
  pub quiet : reply ≡ Err Memory → faults (device_of new) ≡ faults (device_of old)
  pub told : TellsSo (policy_of old) (shape_of_service old) old.sets new.sets said reply
  pub swept : SweepsSo bytes old.ledger new.ledger said reply
  pub rises : faults (device_of old) ≤ faults (device_of new)
  pub stays : StaysIfWrong said old.ledger new.ledger
  pub keeps : KeepsIfRefused said reply (shape_of_service old) (shape_of_service new)
  pub making : (e : Refusal) → reply ≡ Err e → said ≢ Some (Said.chore Chore.merge) → (shape_of_service new).merging ≡ (shape_of_service old).merging
  pub still : (e : Refusal) → reply ≡ Err e → may_move said ≡ false → shape_of_service new ≡ shape_of_service old

-- a line takes the number of one segment at most, and one generation
pub record TakesNumbers (old new : Shape) : Type 0 where
  pub segment : IsOneMoreAtMost old.next_segment new.next_segment
  pub generation : IsOneMoreAtMost old.next_generation new.next_generation

-- no more files wait to be deleted than the numbers name that were given out: two a segment, one a generation and one for each pair
abbrev pub HasFewPending : Shape → Type 0
HasFewPending s = pending_in s + 2 ≤ s.next_segment * (s.next_generation + 1)
