-- What a directory tells of its files, and what a crash may leave of them.
use Rattle.std.specs.Prelude.{◌≡◌, ◌≢◌, ◌⊎◌, ℕ, ◌+◌, ◌-◌, ◌^◌, ◌<◌, ◌≤◌, List, Option, Some, None, IfSome}
use Rattle.cat_model.specs.Text.{Text}
use Rattle.cat_model.specs.Files.{Name}

-- ---- of one file

-- a file's bytes, or nothing where it is absent
abbrev pub FileContent : Type 0
FileContent = Option (List ℕ)

-- what a device tells of a file, or nothing where it doesn't tell
abbrev pub Told : Type 0
Told = Option FileContent

-- what is told of a file is so; where nothing is told, it may be anything
abbrev pub IsTold : Told → Option Text → Type 0
IsTold told content = IfSome told (λ so. so ≡ content)

-- What a crash may leave of a file is a set of contents. This one has nothing that the other hasn't.
abbrev pub NoMore : (FileContent → Type 0) → (FileContent → Type 0) → Type 0
NoMore old new = (e : FileContent) → new e → old e

-- what is told of the file, and nothing else; where nothing is told, this says nothing
abbrev pub IsSettled : Told → (FileContent → Type 0) → Type 0
IsSettled told left = (now e : FileContent) → told ≡ Some now → left e → e ≡ now

-- ---- of the count of failures

-- one failure more; at the last value of a u64 the count stays
abbrev pub CountsOne : ℕ → ℕ → Type 0
CountsOne old new = ((old < 2 ^ 64 - 1) × (new ≡ old + 1)) ⊎ ((old ≡ 2 ^ 64 - 1) × (new ≡ old))

-- ---- of all files

-- what a directory tells, by the names of its files
abbrev pub ToldByName : Type 0
ToldByName = Name → Told

-- what a crash may leave of each
abbrev pub LeftByName : Type 1
LeftByName = Name → FileContent → Type 0

-- How directories of one kind behave: what one tells of its files, what a crash may leave of them, whether a call of it can fail, and how many
-- of its calls have failed.
pub record DirectoryKind (D : Type 0) : Type 1 where
  pub bytes : D → ToldByName
  pub may_leave : D → LeftByName
  pub can_fail : D → Type 0
  pub failures : D → ℕ

-- directories of this kind tell of every file, at any time, as the one in memory does
abbrev pub TellsAlways : {D : Type 0} → DirectoryKind D → Type 0
TellsAlways {D} kind = (d : D) (q : Name) → kind.bytes d q ≢ None

-- the file has these bytes, as is told
abbrev pub IsToldToHave : ToldByName → Name → Text → Type 0
IsToldToHave told q bytes = told q ≡ Some (Some bytes)

-- the file may have these bytes: where the directory tells of it, it tells them
abbrev pub MayHave : ToldByName → Name → Text → Type 0
MayHave told q bytes = IsTold (told q) (Some bytes)

-- The commit of this generation is the newest: its file may be there, and that of none of a greater number is told to be.
pub record IsNewestTold (told : ToldByName) (generation : ℕ) : Type 0 where
  pub there : told (Name.commit generation) ≢ Some None
  pub greatest : (h : ℕ) (bytes : Text) → IsToldToHave told (Name.commit h) bytes → h ≤ generation

-- no file of a commit is told to be there
abbrev pub TellsNoCommit : ToldByName → Type 0
TellsNoCommit told = (h : ℕ) (bytes : Text) → IsToldToHave told (Name.commit h) bytes → ⊥

-- what a crash left: of each file, by itself, something that it may leave
abbrev pub MayBeLeft : LeftByName → (Name → FileContent) → Type 0
MayBeLeft may_leave image = (q : Name) → may_leave q (image q)

-- what a directory tells that has just these files, and tells of all
abbrev pub told_of : (Name → FileContent) → ToldByName
told_of image = λ q. Some (image q)
