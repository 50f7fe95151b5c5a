-- Why each line was told what it was told, as a directory is served.
use Rattle.std.specs.Prelude.{◌≡◌, ◌≢◌, ◌⊎◌, ℕ, ◌<◌, ◌≤◌, max, count_by, List, [], length, map, filter_map, Contains, Option, Some, None, Result}
use Rattle.std.specs.List.{AllByRecursion}
use Rattle.cat_base.specs.declared.refusal.Refusal.{Refusal}
use Rattle.cat_base.specs.declared.refusal.Refusal.TheVariants.{Device}
use Rattle.cat_model.specs.Text.{Text}
use Rattle.cat_model.specs.Item.{Schema}
use Rattle.cat_model.specs.Run.{Run, newest_commit}
use Rattle.cat_model.specs.Table.{Opened}
use Rattle.cat_model.specs.Heard.{Json}
use Rattle.cat_model.specs.Files.{IsFileName, Name}
use Rattle.cat_model.specs.Served.{Answered, Ending, Refused, ServesBy, SpellsSchema, exchange}
use Rattle.cat_model.specs.Told.{CountsOne, DirectoryKind, FileContent, IsNewestTold, IsToldToHave, LeftByName, MayBeLeft, MayHave, TellsAlways, TellsNoCommit, ToldByName, told_of}
use Rattle.cat_model.specs.Restored.{IsRestored, Restored}
use Rattle.cat_model.specs.Serving.{IsServedIn, RefusesFirst}
use Rattle.cat_model.specs.Standings.{HaveReasons, Standing}

-- ---- the numbers that come first

-- Names of files, each with the form of one: those that may be there, and all that are told to be.
pub record AreNamesIn (told : ToldByName) (names : List Name) : Type 0 where
  pub formed : AllByRecursion IsFileName names
  pub there : (q : Name) → Contains names q → told q ≢ Some None
  pub complete : (q : Name) (bytes : Text) → IsToldToHave told q bytes → Contains names q

-- the numbers of segments in the name are below the first number, those of commits below the second
abbrev pub HasLowerNumbers : ℕ → ℕ → Name → Type 0
HasLowerNumbers n g (Name.segment m) = m < n
HasLowerNumbers n g (Name.source m) = m < n
HasLowerNumbers n g (Name.live m d) = (m < n) × (d < g)
HasLowerNumbers n g (Name.commit d) = d < g

-- they are the least such numbers for all of the names, from 1 on
pub record AreFirstNumbers (names : List Name) (n g : ℕ) : Type 0 where
  pub some : (1 ≤ n) × (1 ≤ g)
  pub above : AllByRecursion (HasLowerNumbers n g) names
  pub least : (m h : ℕ) → 1 ≤ m → 1 ≤ h → AllByRecursion (HasLowerNumbers m h) names → (n ≤ m) × (g ≤ h)

-- ---- how the service stands at first

-- It begins at the newest commit: its segments stand, and the next one has a number that is above those in names of files, and no less
-- than the commit tells.
pub record BeginsWith (told : ToldByName) (schema : Schema) (first : ℕ) (s : Standing) : Type 0 where
  pub generation : ℕ
  pub newest : IsNewestTold told generation
  pub restored : Restored
  pub held : IsRestored (MayHave told) schema generation restored
  pub segments : s.stat.segments
      ≡ map (λ leaf. record { number = leaf.segment.number; rows = length leaf.segment.rows; live = count_by (λ b. b) leaf.live }) restored.leaves
  pub next : s.next_segment ≡ max first restored.commit.next

-- How it stands before the first line: at the newest commit, or without a segment where no commit is there; nothing waits, no merge is in the
-- making, no set is cached, and no generation was tried; and the numbers that come next are the least that are above those in the names of the
-- directory's files. No failure is counted but those that the directory had counted. Or one more is, where the directory can fail, as the
-- second argument says: a file that nobody needs couldn't be deleted, and waits for a SWEEP.
pub record StandsFirst (told : ToldByName) (fails : Type 0) (failures : ℕ) (schema : Schema) (s : Standing) : Type 0 where
  pub names : List Name
  pub listed : AreNamesIn told names
  pub first : ℕ
  pub next : AreFirstNumbers names first s.next_generation
  pub commit : BeginsWith told schema first s ⊎ (TellsNoCommit told × (s.stat.segments ≡ []) × (s.next_segment ≡ max first 1))
  pub waits : s.stat.buffered ≡ 0
  pub idle : s.merging ≡ None
  pub cache : s.cache ≡ record { sets = []; noted = []; making = None }
  pub counted : (s.failures ≡ failures) ⊎ (fails × CountsOne failures s.failures × (0 < s.stat.pending))
  pub untried : s.tried ≡ []

-- ---- the whole

-- Whatever commit a crash leaves as the newest, it is the run's newest, or a COMMIT that was refused tried it and took its generation. So that
-- has been taken: it is below the one that comes next, and no later COMMIT is told it.
abbrev pub HasTakenAll : LeftByName → Opened → Run → Standing → Type 0
HasTakenAll may_leave from run s = (image : Name → FileContent) (g : ℕ) → MayBeLeft may_leave image → IsNewestTold (told_of image) g
    → (g < s.next_generation) × ((newest_commit from run ≡ Some g) ⊎ Contains s.tried g)

-- The text answers the lines as it is served, and each reply has its cause: between the lines the service stands somehow, from the first
-- one on; and at the end the directory that is left has counted as many failures, and the generations of its commits are taken.
pub record IsCausedIn (json : Json) {D : Type 0} (kind : DirectoryKind D) (device left : D) (first : Text) (lines : List Text) (text : Text)
    : Type 0 where
  pub served : IsServedIn json kind device left first lines text
  pub factor : ℕ
  pub least : ℕ
  pub fields : Text
  pub policy : SpellsSchema first factor least fields
  pub opened : Standing
  pub begins : StandsFirst (kind.bytes device) (kind.can_fail device) (kind.failures device) served.from.start.schema opened
  pub last : Standing
  pub reasons : HaveReasons (TellsAlways kind) factor least served.from [] opened (filter_map exchange served.fitting) last
  pub failures : last.failures ≡ kind.failures left
  pub taken : TellsAlways kind → HasTakenAll (kind.may_leave left) served.from (filter_map exchange served.fitting) last

-- An opening that is refused counts one failure more where it is told that the device failed, which it can then; else it counts none. The
-- first argument says whether it can.
abbrev pub CountsRefusal : Type 0 → (old new : ℕ) → Refusal → Type 0
CountsRefusal fails old new e = (e ≡ Device → fails × CountsOne old new) × (e ≢ Device → new ≡ old)

-- What is written answers the lines that were read, and each reply has its cause.
abbrev pub CausesIn : {D : Type 0} → Json → DirectoryKind D → (device left : D) → (input rest before after : Option Text)
    → Result (Unit {0}) Ending → Type 0
CausesIn {D = D} json kind device left =
    ServesBy (Answered (◌≡◌ {A = D} left device) (IsCausedIn json kind device left)) (Refused (◌≡◌ {A = D} left device)
    (λ first e. RefusesFirst json kind device left first e × CountsRefusal (kind.can_fail device) (kind.failures device) (kind.failures left) e))
