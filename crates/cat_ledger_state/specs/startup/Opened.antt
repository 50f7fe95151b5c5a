-- What a ledger is that was opened.
use Rattle.std.specs.Prelude.{◌≡◌, ◌⊎◌, ℕ, max, true, List, Contains}
use Rattle.cat_model.specs.Item.{Schema}
use Rattle.cat_model.specs.Files.{Name}
use Rattle.cat_model.specs.State.{IsFresh}
use Rattle.cat_directory.specs.declared.name.FileName.{FileName}
use Rattle.cat_directory.specs.declared.name.FileName.TheVariants as file
use Rattle.cat_directory.specs.Devices.{Lists}
use Rattle.cat_directory.specs.Names.{name_of}
use Rattle.cat_lifetimes.specs.refs.Counts.{names_in}
use Rattle.cat_ledger_laws.specs.model.Users.{has_name, is_known}
use Rattle.cat_ledger_laws.specs.model.Ledger.{LedgerCommit, Ledger, commit_file, state_of}
use Rattle.cat_ledger_laws.specs.model.Stored.{FileBytes}
use Rattle.cat_ledger_laws.specs.model.Calls.{IsOpened, IsEmpty}
use Rattle.cat_ledger_laws.specs.model.Opening.{Restored, IsRestored}
use Rattle.cat_ledger_laws.specs.shape.Shapes.{Shape}
use Rattle.cat_ledger_laws.specs.shape.Ties.{ToldFiles, Carries}
use Rattle.cat_ledger_laws.specs.shape.OpeningLaws.{IsCountedAt, MayHold, empty_at, opened_at}
use Rattle.cat_commits.specs.reading.Numbers.{AreNext, IsNewest}
use Rattle.cat_ledger_state.specs.startup.Newest.{IsNewestCommit, HasNoCommit}

-- These are the names of the directory's files. All of them are known; and the numbers that come next are the least, from 1 on,
-- that are above those of each name, that of a segment being no less than this one.
pub record HasListed (told : ToldFiles) (names : List FileName) (least : ℕ) (s : Shape) : Type 0 where
  pub listed : Lists told names
  pub known : (q : FileName) → Contains names q → is_known s.users (name_of q) ≡ true
  pub first : ℕ
  pub next : AreNext names first s.next_generation
  pub segment : s.next_segment ≡ max first least

-- Memory has this commit. The next commit has the number g, and the next segment n, or the greater one that the commit tells.
pub record IsStateAt (schema : Schema) (restored : Restored) (n g : ℕ) (s : Shape) : Type 0 where
  pub segment : s.next_segment ≡ max n restored.commit.next
  pub next : s.next_generation ≡ g
  pub counted : IsCountedAt schema restored s.users s.next_segment s.next_generation
  pub memory : s ≡ opened_at schema restored s.users s.next_segment s.next_generation

-- it has the commit of this generation, as its files may hold it
pub record IsRestoredAt (told : ToldFiles) (schema : Schema) (generation n g : ℕ) (s : Shape) : Type 0 where
  pub restored : Restored
  pub held : IsRestored (MayHold told) schema generation restored
  pub state : IsStateAt schema restored n g s

-- It was opened at the newest commit, as its files may hold it: what is carried then is a ledger of just that commit.
pub record IsOpenedAtCommit (told : ToldFiles) (schema : Schema) (told' : ToldFiles) (s : Shape) : Type 0 where
  pub generation : ℕ
  pub newest : IsNewestCommit told generation
  pub restored : Restored
  pub held : IsRestored (MayHold told) schema generation restored
  pub names : List FileName
  pub among : IsNewest names generation
  pub names_seen : HasListed told names restored.commit.next s
  pub memory : s ≡ opened_at schema restored s.users s.next_segment s.next_generation
  pub commit : LedgerCommit
  pub same : commit_file schema commit ≡ restored.commit
  pub ledger : Ledger
  pub files : FileBytes
  pub opened : IsOpened commit ledger
  pub fresh : IsFresh (state_of ledger)
  pub carries : Carries told' s ledger files

-- It was opened where there is no commit: what is carried then is a ledger without a record, and just the names of the
-- directory's files are known.
pub record IsOpenedEmpty (told : ToldFiles) (schema : Schema) (told' : ToldFiles) (s : Shape) : Type 0 where
  pub none : HasNoCommit told
  pub names : List FileName
  pub among : (g : ℕ) → Contains names (file.Commit g) → ⊥
  pub names_seen : HasListed told names 1 s
  pub only : (q : Name) → is_known s.users q ≡ has_name q (names_in names)
  pub memory : s ≡ empty_at schema s.users s.next_segment s.next_generation
  pub ledger : Ledger
  pub files : FileBytes
  pub opened : IsEmpty ledger
  pub fresh : IsFresh (state_of ledger)
  pub carries : Carries told' s ledger files

-- what was told before it was opened, and what is told and in memory then
abbrev pub HasOpened : ToldFiles → Schema → ToldFiles → Shape → Type 0
HasOpened told schema told' s = IsOpenedAtCommit told schema told' s ⊎ IsOpenedEmpty told schema told' s
