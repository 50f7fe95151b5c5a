-- What a crash leaves of a commit that was tried and refused: its own file, torn or whole, and the files that it lists.
use Rattle.std.specs.Prelude.{◌≡◌, ◌≢◌, ◌⊎◌, ℕ, ◌<◌, ◌≤◌, true, List, [], ◌∷◌, ◌++◌, Option, Some, None, IfSome}
use Rattle.std.specs.List.{flat_map, AllByRecursion}
use Rattle.cat_model.specs.CommitFile.{CommitFile, IsCommitFile, SpellsCommit, listed_names, spelled_commit}
use Rattle.cat_model.specs.Files.{Name}
use Rattle.cat_model.specs.Text.{Text}
use Rattle.cat_model.specs.Told.{FileContent, NoMore, IsSettled, MayHave, ToldByName}
use Rattle.cat_model.specs.Restored.{HasCommit}
use Rattle.cat_directory.specs.Devices.{IsTorn, OrGone}
use Rattle.cat_directory.specs.Names.{file_of, name_of}
use Rattle.cat_directory.specs.declared.name.FileName.{FileName}
use Rattle.cat_directory.specs.declared.name.FileName.TheVariants as file
use Rattle.cat_ledger_laws.specs.model.Ledger.{IsNew}
use Rattle.cat_ledger_laws.specs.model.Users.{has_name}
use Rattle.cat_ledger_laws.specs.shape.Shapes.{IsShape, MergingShape, Shape}
use Rattle.cat_ledger_laws.specs.shape.Steps.{commit_file_now}
use Rattle.cat_ledger_laws.specs.shape.Ties.{ToldFiles}

-- ---- beginnings

-- A beginning of a commit's file that says a commit is the whole file, and says that commit.
abbrev pub BeginningsAreNoCommits : Type 0
BeginningsAreNoCommits = (bytes rest : Text) (c d : CommitFile) → IsCommitFile c → SpellsCommit bytes d → bytes ++ rest ≡ spelled_commit c
    → (d ≡ c) × (rest ≡ [])

-- ---- one that was tried

-- a commit that was tried: what its own file was to say, and what the files held as that was begun
pub record TriedCommit : Type 0 where
  pub commit : CommitFile
  pub files : FileName → FileContent

-- the names of the files that it lists
abbrev pub tried_lists : TriedCommit → List Name
tried_lists t = flat_map listed_names t.commit.segments

-- A crash leaves of its own file nothing or a beginning; and as long as it may leave anything of that, it leaves of each file that it lists what
-- that held, or nothing. The first argument says what a crash may leave.
pub record LeavesTried (left : FileName → FileContent → Type 0) (t : TriedCommit) : Type 0 where
  pub own : (e : FileContent) → left (file.Commit t.commit.generation) e → IsTorn (spelled_commit t.commit) e
  pub listed : (bytes : Text) → left (file.Commit t.commit.generation) (Some bytes)
      → (q : FileName) → has_name (name_of q) (tried_lists t) ≡ true → (e : FileContent) → left q e → (e ≡ None) ⊎ (e ≡ t.files q)

-- Nobody writes its files again: their numbers were taken, and the merge in the making has another.
pub record HasTried (s : Shape) (t : TriedCommit) : Type 0 where
  pub form : IsCommitFile t.commit
  pub next : t.commit.next ≤ s.next_segment
  pub generation : t.commit.generation < s.next_generation
  pub apart : (m : MergingShape) → s.merging ≡ Some m → AllByRecursion (λ x. x.number ≢ m.number) t.commit.segments

-- so it is with a commit that was tried
pub record IsTriedCommit (left : FileName → FileContent → Type 0) (s : Shape) (t : TriedCommit) : Type 0 where
  pub leaves : LeavesTried left t
  pub taken : HasTried s t

-- ---- what a call does

-- the file is one of those that the merge in the making writes
abbrev pub IsOfMaking : MergingShape → FileName → Type 0
IsOfMaking m q = (q ≡ file.Segment m.number) ⊎ (q ≡ file.Source m.number)

-- A call that neither writes a file again nor gives a number out again: of a file whose number was taken, but for those of the merge in the
-- making, a crash leaves what it could have left, or nothing; and a merge in the making is the one that there was, or has a new number.
pub record SparesTaken (left left' : FileName → FileContent → Type 0) (s new : Shape) : Type 0 where
  pub files : (q : FileName) → (IsNew s.next_segment s.next_generation (name_of q) → ⊥)
      → ((m : MergingShape) → s.merging ≡ Some m → IsOfMaking m q → ⊥) → OrGone (left q) (left' q)
  pub segments : s.next_segment ≤ new.next_segment
  pub generations : s.next_generation ≤ new.next_generation
  pub merging : (m : MergingShape) → new.merging ≡ Some m
      → ((n : MergingShape) × (s.merging ≡ Some n) × (m.number ≡ n.number)) ⊎ (s.next_segment ≤ m.number)

-- What was tried stays so. Here, as below, the first argument says what a crash may leave of a device's files.
abbrev pub TriedStay : {D : Type 0} → (D → FileName → FileContent → Type 0) → Type 0
TriedStay {D} left = (d d' : D) (s new : Shape) (t : TriedCommit) → SparesTaken (left d) (left d') s new → IsTriedCommit (left d) s t
    → IsTriedCommit (left d') new t

-- Where a commit was tried under the next generation, of which nothing could be left: its own file is begun last, behind a sync of all that it
-- lists, and only from its beginning on.
pub record TriesCommit (left left' : FileName → FileContent → Type 0) (s new : Shape) (t : TriedCommit) : Type 0 where
  pub form : IsCommitFile t.commit
  pub generation : t.commit.generation ≡ s.next_generation
  pub next : t.commit.next ≤ new.next_segment
  pub taken : s.next_generation < new.next_generation
  pub fresh : (e : FileContent) → left (file.Commit s.next_generation) e → e ≡ None
  pub torn : (e : FileContent) → left' (file.Commit s.next_generation) e
      → left (file.Commit s.next_generation) e ⊎ IsTorn (spelled_commit t.commit) e
  pub order : NoMore (left (file.Commit s.next_generation)) (left' (file.Commit s.next_generation))
      ⊎ ((q : FileName) → has_name (name_of q) (tried_lists t) ≡ true → (e : FileContent) → left' q e → e ≡ t.files q)
  pub apart : (m : MergingShape) → new.merging ≡ Some m → AllByRecursion (λ x. x.number ≢ m.number) t.commit.segments

-- What a commit of now lists isn't the merge's in the making.
abbrev pub MakingIsApart : Type 0
MakingIsApart = (text : Text) (s : Shape) (m : MergingShape) → IsShape s → s.merging ≡ Some m
    → AllByRecursion (λ x. x.number ≢ m.number) (commit_file_now text s).segments

-- it was tried
abbrev pub TriedBegin : {D : Type 0} → (D → FileName → FileContent → Type 0) → Type 0
TriedBegin {D} left = (d d' : D) (s new : Shape) (t : TriedCommit) → TriesCommit (left d) (left d') s new t → IsTriedCommit (left d') new t

-- ---- calls in a row

-- nothing can be left of the file of a commit whose number wasn't given out yet
abbrev pub IsFreshAhead : (FileName → FileContent → Type 0) → Shape → Type 0
IsFreshAhead left s = (g : ℕ) → s.next_generation ≤ g → (e : FileContent) → left (file.Commit g) e → e ≡ None

-- a call, and what there is after it: the device, what memory has, and the commit that it tried, if it did
pub record Trial (D : Type 0) : Type 0 where
  pub device : D
  pub shape : Shape
  pub tried : Option TriedCommit

-- It spares what was tried, begins no file of a commit whose number it doesn't give out, and tries its own commit where nothing is ahead. The first
-- argument says what a crash may leave of a device's files; the next two say what there was before.
pub record IsTrial {D : Type 0} (left : D → FileName → FileContent → Type 0) (d : D) (s : Shape) (x : Trial D) : Type 0 where
  pub spares : SparesTaken (left d) (left x.device) s x.shape
  pub ahead : (g : ℕ) → x.shape.next_generation ≤ g → OrGone (left d (file.Commit g)) (left x.device (file.Commit g))
  pub tried : IfSome x.tried (λ t. IsFreshAhead (left d) s → IsTriedCommit (left x.device) x.shape t)

-- the calls lead from the one to the other
abbrev pub AreTrials : {D : Type 0} → (D → FileName → FileContent → Type 0) → D → Shape → List (Trial D) → D → Shape → Type 0
AreTrials {D} left d s [] last new = (◌≡◌ {A = D} d last) × (s ≡ new)
AreTrials {D} left d s (x ∷ xs) last new = IsTrial left d s x × AreTrials left x.device x.shape xs last new

-- Where nothing was ahead at first, each commit that one of the calls tried is so at the end, and nothing is ahead then.
abbrev pub TrialsStay : {D : Type 0} → (D → FileName → FileContent → Type 0) → Type 0
TrialsStay {D} left = (d last : D) (s new : Shape) (calls before after : List (Trial D)) (x : Trial D) (t : TriedCommit) → IsFreshAhead (left d) s
    → AreTrials left d s calls last new → calls ≡ before ++ x ∷ after → x.tried ≡ Some t → IsTriedCommit (left last) new t × IsFreshAhead (left last) new

-- ---- what is found

-- a directory with the files of an image
abbrev pub tells_image : (FileName → FileContent) → ToldByName
tells_image image = λ q. Some (image (file_of q))

-- Whatever a crash leaves, the commit that its own file says is the one that was tried, and each file that it lists holds what it held then,
-- or is absent.
abbrev pub TriedAreFound : {D : Type 0} → (D → FileName → FileContent → Type 0) → Type 0
TriedAreFound {D} left = (d : D) (t : TriedCommit) (image : FileName → FileContent) (c : CommitFile)
    → LeavesTried (left d) t → IsCommitFile t.commit → ((q : FileName) → left d q (image q)) → HasCommit (MayHave (tells_image image)) t.commit.generation c
    → (c ≡ t.commit)
    × ((q : Name) → has_name q (tried_lists t) ≡ true → (bytes : Text) → image (file_of q) ≡ Some bytes → t.files (file_of q) ≡ Some bytes)
