-- Calls of a ledger in a row, and which commits a crash after them may leave.
use Rattle.std.specs.Prelude.{◌≡◌, ◌≢◌, ◌⊎◌, ℕ, ◌<◌, ◌≤◌, true, List, [], ◌∷◌, ◌++◌, map, Option, Some, None, Ok, Err, All}
use Rattle.cat_model.specs.Lines.{Said}
use Rattle.cat_model.specs.Run.{Answer, Reply}
use Rattle.cat_model.specs.Text.{Text}
use Rattle.cat_directory.specs.Devices.{FileContent, NoMore, OrGone}
use Rattle.cat_directory.specs.Names.{name_of}
use Rattle.cat_directory.specs.declared.name.FileName.{FileName}
use Rattle.cat_directory.specs.declared.name.FileName.TheVariants as file
use Rattle.cat_ledger_laws.specs.model.Users.{has_name}
use Rattle.cat_ledger_laws.specs.shape.Shapes.{Shape}
use Rattle.cat_ledger_laws.specs.shape.Steps.{newest_generation}
use Rattle.cat_ledger_laws.specs.shape.Ties.{ToldFiles}
use Rattle.cat_ledger_laws.specs.shape.Tried.{IsFreshAhead, IsTriedCommit, LeavesTried, SparesTaken, TriedCommit}
use Rattle.cat_ledger_laws.specs.lines.TriedLaws.{IsPromisedBy}
use Rattle.cat_ledger_state.specs.startup.Newest.{HasNoCommit, IsNewestCommit}
use Rattle.cat_ledger.specs.Lasting.{AlwaysTells, IsLasting, newest_needs}
use Rattle.cat_ledger.specs.Ledgers.{LedgerOnDevice, device_in, policy_in, shape_in}
use Rattle.cat_ledger.specs.upkeep.Spared.{SparesCommits}

-- ---- what a call has to do with commits

-- Another call than one for a commit, whatever it answered; a commit of this generation that was answered OK; or one that was refused, but
-- whose own file may have been begun: what that was to say, and what the files held then.
pub data Event : Type 0 where
  Other : Event
  Answered : (generation : ℕ) → Event
  Refused : (tried : TriedCommit) → Event

-- no commit was answered
abbrev pub IsUnanswered : Event → Type 0
IsUnanswered (Event.Answered g) = ⊥
IsUnanswered event = Unit {0}

-- the call may have begun the own file of a commit of this generation
abbrev pub MayBegin : Event → ℕ → Type 0
MayBegin Event.Other g = ⊥
MayBegin (Event.Answered h) g = g ≡ h
MayBegin (Event.Refused t) g = g ≡ t.commit.generation

-- the generation of the newest commit, if there is one
abbrev pub newest_commit_in : {D : Type 0} → LedgerOnDevice D → Option ℕ
newest_commit_in l = newest_generation (shape_in l).commits

-- the newest commit after the call, by the newest one before
abbrev pub newest_after : Event → Option ℕ → Option ℕ
newest_after (Event.Answered g) newest = Some g
newest_after event newest = newest

-- past this generation; where there is none, any is
abbrev pub IsPastNewest : Option ℕ → ℕ → Type 0
IsPastNewest None g = Unit {0}
IsPastNewest (Some h) g = h < g

-- What a call leaves of commits: the newest one is the one that it was answered, if it was; generations go up, and a commit asks for the
-- one that comes next, which is past the newest, and isn't given out again where its files may have been begun; a crash may leave of
-- each commit's own file what it could have left before, or nothing, but of the one that the call may have begun; and no file is written
-- again, nor a number given out again. What a refused commit tried: where nothing could be left of the own file of a commit whose number
-- wasn't given out, a crash may leave its own file torn, beside the files that it lists; and it promises the table of then. The first two
-- arguments say what a device tells of its files, and what a crash may leave of them.
pub record Goes {D : Type 0} (bytes : D → ToldFiles) (left : D → FileName → FileContent → Type 0) (event : Event) (old new : LedgerOnDevice D)
    : Type 0 where
  pub newest : newest_commit_in new ≡ newest_after event (newest_commit_in old)
  pub next : (shape_in old).next_generation ≤ (shape_in new).next_generation
  pub asked : (g : ℕ) → MayBegin event g → (g ≡ (shape_in old).next_generation) × IsPastNewest (newest_commit_in old) g
  pub taken : (g : ℕ) → MayBegin event g → g < (shape_in new).next_generation
  pub files : (g : ℕ) → (MayBegin event g → ⊥) → OrGone (left (device_in old) (file.Commit g)) (left (device_in new) (file.Commit g))
  pub spared : SparesTaken (left (device_in old)) (left (device_in new)) (shape_in old) (shape_in new)
  pub tried : (t : TriedCommit) → event ≡ Event.Refused t → AlwaysTells bytes
      → (IsFreshAhead (left (device_in old)) (shape_in old) → IsTriedCommit (left (device_in new)) (shape_in new) t)
      × IsPromisedBy (bytes (device_in old)) (shape_in old) t

-- What a call leaves that is for no commit: it makes nothing of commits, and the policy stays.
pub record GoesOn {D : Type 0} (bytes : D → ToldFiles) (left : D → FileName → FileContent → Type 0) (old new : LedgerOnDevice D) : Type 0 where
  pub history : Goes bytes left Event.Other old new
  pub policy : policy_in new ≡ policy_in old

-- What a refused commit of this text makes of commits: nothing, or it tried one of this text.
abbrev pub GoesRefused : {D : Type 0} → (D → ToldFiles) → (D → FileName → FileContent → Type 0) → Text → LedgerOnDevice D → LedgerOnDevice D → Type 0
GoesRefused bytes left text old new =
    Goes bytes left Event.Other old new ⊎ ((t : TriedCommit) × (t.commit.text ≡ text) × Goes bytes left (Event.Refused t) old new)

-- What a COMMIT of this text that is refused may have tried: a crash leaves no more of any commit's own file; or its generation is taken, and it
-- tried a commit of this text, as `Goes` says. The arguments behind the text are the device and what memory had, before and after.
abbrev pub MayHaveTried : {D : Type 0} → (D → ToldFiles) → (D → FileName → FileContent → Type 0) → Text → D → Shape → D → Shape → Type 0
MayHaveTried bytes left text d s d' new =
    SparesCommits (left d) (left d')
    ⊎ ((t : TriedCommit) × (t.commit.text ≡ text) × (t.commit.generation ≡ s.next_generation) × (s.next_generation < new.next_generation)
    × (IsLasting bytes left d s → AlwaysTells bytes → (IsFreshAhead (left d) s → IsTriedCommit (left d') new t) × IsPromisedBy (bytes d) s t))

-- What a line makes of commits, by its reply: a COMMIT that was answered OK keeps one of this generation; one that was refused may have
-- tried one of its text; and no other line has to do with commits. (None is a line without a form.)
abbrev pub GoesBy : {D : Type 0} → (D → ToldFiles) → (D → FileName → FileContent → Type 0) → Option Said → Reply → LedgerOnDevice D → LedgerOnDevice D
    → Type 0
GoesBy bytes left (Some (Said.commit text)) (Ok (Answer.number g)) old new = Goes bytes left (Event.Answered g) old new
GoesBy bytes left (Some (Said.commit text)) (Ok a) old new = ⊥
GoesBy bytes left (Some (Said.commit text)) (Err e) old new = GoesRefused bytes left text old new
GoesBy bytes left said reply old new = Goes bytes left Event.Other old new

-- A crash may leave of each commit's own file but this one's what it could have left before.
abbrev pub SparesOtherCommits : ℕ → (FileName → FileContent → Type 0) → (FileName → FileContent → Type 0) → Type 0
SparesOtherCommits n could can = (g : ℕ) → g ≢ n → NoMore (could (file.Commit g)) (can (file.Commit g))

-- ---- calls in a row

-- a call, and the ledger after it
pub record Call (D : Type 0) : Type 0 where
  pub event : Event
  pub after : LedgerOnDevice D

-- the calls lead from the one to the other
abbrev pub IsHistory : {D : Type 0} → (D → ToldFiles) → (D → FileName → FileContent → Type 0) → LedgerOnDevice D → List (Call D) → LedgerOnDevice D
    → Type 0
IsHistory {D} bytes left first [] last = ◌≡◌ {A = LedgerOnDevice D} last first
IsHistory {D} bytes left first (call ∷ calls) last = Goes bytes left call.event first call.after × IsHistory bytes left call.after calls last

-- what they had to do with commits
abbrev pub events_of : {D : Type 0} → List (Call D) → List Event
events_of calls = map (λ call. call.event) calls

-- a commit was refused that tried this, and none has been answered since
pub record IsTried (events : List Event) (t : TriedCommit) : Type 0 where
  pub before : List Event
  pub since : List Event
  pub split : events ≡ before ++ Event.Refused t ∷ since
  pub none : All IsUnanswered since

-- the generation of the last commit that was answered, if one was
pub record IsAnswered (events : List Event) (g : ℕ) : Type 0 where
  pub before : List Event
  pub since : List Event
  pub split : events ≡ before ++ Event.Answered g ∷ since
  pub none : All IsUnanswered since

-- it is that of the last commit that was answered, or, where none was, this one
abbrev pub IsLastAnswered : Option ℕ → List Event → Option ℕ → Type 0
IsLastAnswered first events newest = ((g : ℕ) × IsAnswered events g × (newest ≡ Some g)) ⊎ (All IsUnanswered events × (newest ≡ first))

-- ---- what a crash leaves

-- a crash leaves no commit's own file past the newest one that memory has
abbrev pub NoneIsAhead : (FileName → FileContent → Type 0) → Shape → Type 0
NoneIsAhead left s = (g : ℕ) (e : FileContent) → IsPastNewest (newest_generation s.commits) g → left (file.Commit g) e → e ≡ None

-- so at this moment, as when a ledger was opened
abbrev pub LeavesNoneAhead : {D : Type 0} → (D → FileName → FileContent → Type 0) → LedgerOnDevice D → Type 0
LeavesNoneAhead left l = NoneIsAhead (left (device_in l)) (shape_in l)

-- what a crash leaves: of each file, by itself, something that it may leave
abbrev pub IsCrashed : (FileName → FileContent → Type 0) → (FileName → FileContent) → Type 0
IsCrashed left image = (q : FileName) → left q (image q)

-- what a device tells that has these files
abbrev pub image_tells : (FileName → FileContent) → ToldFiles
image_tells image = λ q. Some (image q)

-- ---- the laws

-- The newest commit of a ledger is the last one that was answered, or else the one that it began with.
abbrev pub NewestIsAnswered : {D : Type 0} → (D → ToldFiles) → (D → FileName → FileContent → Type 0) → LedgerOnDevice D → Type 0
NewestIsAnswered {D} bytes left last =
    (first : LedgerOnDevice D) (calls : List (Call D)) → IsHistory bytes left first calls last → IsLastAnswered (newest_commit_in first) (events_of calls) (newest_commit_in last)

-- Whatever a crash leaves, the newest commit that is found there has the generation of the ledger's newest one, or of one that was tried by a
-- refused commit since that was answered; and what may be left of that is its own file, torn, and the files that it lists.
abbrev pub FoundIsTried : {D : Type 0} → (D → ToldFiles) → (D → FileName → FileContent → Type 0) → LedgerOnDevice D → Type 0
FoundIsTried {D} bytes left last =
    (first : LedgerOnDevice D) (calls : List (Call D)) → AlwaysTells bytes → LeavesNoneAhead left first → IsHistory bytes left first calls last
    → (image : FileName → FileContent) (g : ℕ) → IsCrashed (left (device_in last)) image → IsNewestCommit (image_tells image) g
    → (newest_commit_in last ≡ Some g)
    ⊎ ((t : TriedCommit) × (t.commit.generation ≡ g) × IsTried (events_of calls) t × LeavesTried (left (device_in last)) t)

-- So its generation is below the one that comes next: no later commit gets it.
abbrev pub FoundIsTaken : {D : Type 0} → (D → ToldFiles) → (D → FileName → FileContent → Type 0) → LedgerOnDevice D → Type 0
FoundIsTaken {D} bytes left last =
    (first : LedgerOnDevice D) (calls : List (Call D)) → AlwaysTells bytes → LeavesNoneAhead left first → IsHistory bytes left first calls last
    → (image : FileName → FileContent) (g : ℕ) → IsCrashed (left (device_in last)) image → IsNewestCommit (image_tells image) g
    → g < (shape_in last).next_generation

-- Where a crash leaves no commit, the ledger has none.
abbrev pub NoneIsLost : {D : Type 0} → (D → ToldFiles) → (D → FileName → FileContent → Type 0) → LedgerOnDevice D → Type 0
NoneIsLost bytes left last =
    AlwaysTells bytes → (image : FileName → FileContent) → IsCrashed (left (device_in last)) image → HasNoCommit (image_tells image) → newest_commit_in last ≡ None

-- Once the commits past the ledger's newest one are taken away from what a crash left, with whatever else it doesn't need, that one is the
-- newest that is found, and each file that it needs is what the device told of it.
abbrev pub NewestIsFound : {D : Type 0} → (D → ToldFiles) → (D → FileName → FileContent → Type 0) → LedgerOnDevice D → Type 0
NewestIsFound {D} bytes left last =
    (newest : ℕ) → AlwaysTells bytes → newest_commit_in last ≡ Some newest → (image mended : FileName → FileContent) → IsCrashed (left (device_in last)) image
    → ((q : FileName) → has_name (name_of q) (newest_needs (shape_in last).commits) ≡ true → mended q ≡ image q)
    → ((g : ℕ) → newest < g → mended (file.Commit g) ≡ None)
    → IsNewestCommit (image_tells mended) newest
    × ((q : FileName) → has_name (name_of q) (newest_needs (shape_in last).commits) ≡ true → bytes (device_in last) q ≡ image_tells mended q)
