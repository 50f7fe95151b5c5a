-- What a run of the program does: what it asks of its system and tells, in this order, and nothing else; and its exit status.
--
-- S is the type of systems, F that of their folders, and L that of the locks of these. `does` says what is done from one state of a system
-- to the next; `bytes`, `may_leave` and `can_fail` are words of the folders' kind: what is told of a file, what a crash may leave of
-- it, and whether a call may fail.
use Rattle.std.specs.Prelude.{◌≡◌, ◌⊎◌, ℕ, List, Option, Some, None, Result, Ok, Err, MatchResult}
use Rattle.std.specs.declared.alloc.AllocError.{AllocError}
use Rattle.cat_base.specs.declared.refusal.Refusal.{Refusal}
use Rattle.cat_base.specs.declared.refusal.Refusal.TheVariants.{Device, Memory}
use Rattle.cat_directory.specs.declared.lock.LockRefusal.{LockRefusal}
use Rattle.cat_directory.specs.declared.lock.LockRefusal.TheVariants as lock
use Rattle.cat_directory.specs.declared.name.FileName.{FileName}
use Rattle.cat_directory.specs.Devices.{FileContent, Told}
use Rattle.cat_directory.specs.Frames.{OnlyReads}
use Rattle.cat_check.specs.Checked.{IsChecked}
use Rattle.cat_check.specs.Standing.{IsDroppable, IsDropped, IsStanding}
use Rattle.cat_check.specs.declared.checked.Checked.{Checked}
use Rattle.cat_check.specs.declared.dropping.Standing.{Standing}
use Rattle.catalogue_check.specs.declared.endings.Ending.{Ending}
use Rattle.catalogue_check.specs.declared.endings.Ending.TheVariants.{Unjudged}
use Rattle.catalogue_check.specs.declared.news.News.TheVariants as news
use Rattle.catalogue_check.specs.Acts.{CheckAct}
use Rattle.catalogue_check.specs.Asked.{Asked, asked_of}
use Rattle.catalogue_check.specs.Ended.{ending_of, status_of}

-- ---- a folder is judged

-- What is found is told, and is so of what is told of the folder's files; or nothing is judged, and nothing told.
abbrev pub ShowsFound : {S F L : Type 0} → (S → CheckAct F L → S → Type 0) → (FileName → Told) → Type 0 → S → Result Ending Refusal → S → Type 0
ShowsFound does told can_fail s (Ok ending) t = (checked : Checked) × IsChecked told can_fail checked × does s (CheckAct.found checked) t × (ending ≡ ending_of checked)
ShowsFound does told can_fail s (Err e) t = (s ≡ t) × (e ≡ Device → can_fail)

-- so it comes of the folder, which is left as it is
pub record Judges {S F L : Type 0} (does : S → CheckAct F L → S → Type 0) (bytes : F → FileName → Told)
    (may_leave : F → FileName → FileContent → Type 0) (can_fail : F → Type 0) (folder : F) (s : S) (judged : Result Ending Refusal) (t : S) : Type 0 where
  pub told : S
  pub found : ShowsFound does (bytes folder) (can_fail folder) s judged told
  pub now : F
  pub same : OnlyReads bytes may_leave can_fail folder now
  pub leaves : does told (CheckAct.left now) t

-- and of the folder at the path, unless memory for it is wanting
abbrev pub JudgesAt : {S F L : Type 0} → (S → CheckAct F L → S → Type 0) → (F → FileName → Told) → (F → FileName → FileContent → Type 0) → (F → Type 0)
    → List ℕ → S → Result Ending Refusal → S → Type 0
JudgesAt {S} {F} does bytes may_leave can_fail path s judged t =
    (answer : Result F AllocError) × (opened : S) × does s (CheckAct.opened path answer) opened
    × MatchResult answer (λ folder. Judges does bytes may_leave can_fail folder opened judged t) (λ e. (opened ≡ t) × (judged ≡ Err Memory))

-- It is judged whoever has the lock, and told first where a program has it.
abbrev pub JudgesShared : {S F L : Type 0} → (S → CheckAct F L → S → Type 0) → (F → FileName → Told) → (F → FileName → FileContent → Type 0) → (F → Type 0)
    → List ℕ → Result L LockRefusal → S → Result Ending Refusal → S → Type 0
JudgesShared {S} does bytes may_leave can_fail path (Ok share) s judged t =
    (unlocked : S) × does s (CheckAct.unlocked share) unlocked × JudgesAt does bytes may_leave can_fail path unlocked judged t
JudgesShared {S} does bytes may_leave can_fail path (Err lock.InUse) s judged t =
    (said : S) × does s (CheckAct.said news.InUse) said × JudgesAt does bytes may_leave can_fail path said judged t
JudgesShared does bytes may_leave can_fail path (Err lock.Device) s judged t = JudgesAt does bytes may_leave can_fail path s judged t
JudgesShared does bytes may_leave can_fail path (Err lock.Memory) s judged t = (s ≡ t) × (judged ≡ Err Memory)

-- ---- a torn commit is dropped

-- What was dropped is told, and what is there then is judged; or why nothing more was done.
abbrev pub DropsAs : {S F L : Type 0} → (S → CheckAct F L → S → Type 0) → (F → FileName → Told) → (F → FileName → FileContent → Type 0) → (F → Type 0)
    → F → F → Result Standing Refusal → S → Result Ending Refusal → S → Type 0
DropsAs {S} does bytes may_leave can_fail folder now (Ok standing) s judged t =
    IsStanding (bytes folder) standing × IsDropped (bytes folder) (bytes now) (may_leave now) standing
    × ((told : S) × does s (CheckAct.dropped standing) told × Judges does bytes may_leave can_fail now told judged t)
DropsAs does bytes may_leave can_fail folder now (Err e) s judged t =
    (judged ≡ Err e) × (e ≡ Device → can_fail folder) × does s (CheckAct.left now) t

-- No other file of the folder has changed than that of a torn commit over a whole one.
abbrev pub DropsIn : {S F L : Type 0} → (S → CheckAct F L → S → Type 0) → (F → FileName → Told) → (F → FileName → FileContent → Type 0) → (F → Type 0)
    → F → S → Result Ending Refusal → S → Type 0
DropsIn {S} {F} does bytes may_leave can_fail folder s judged t =
    (now : F) × (dropped : Result Standing Refusal) × ((q : FileName) → (bytes now q ≡ bytes folder q) ⊎ IsDroppable (bytes folder) q)
    × DropsAs does bytes may_leave can_fail folder now dropped s judged t

-- so in the folder at the path, unless memory for it is wanting
abbrev pub DropsAt : {S F L : Type 0} → (S → CheckAct F L → S → Type 0) → (F → FileName → Told) → (F → FileName → FileContent → Type 0) → (F → Type 0)
    → List ℕ → S → Result Ending Refusal → S → Type 0
DropsAt {S} {F} does bytes may_leave can_fail path s judged t =
    (answer : Result F AllocError) × (opened : S) × does s (CheckAct.opened path answer) opened
    × MatchResult answer (λ folder. DropsIn does bytes may_leave can_fail folder opened judged t) (λ e. (opened ≡ t) × (judged ≡ Err Memory))

-- Where the lock is had, it is kept until that is done. Where a program has it, nothing is dropped, and that is told; else nothing is done.
abbrev pub DropsLocked : {S F L : Type 0} → (S → CheckAct F L → S → Type 0) → (F → FileName → Told) → (F → FileName → FileContent → Type 0) → (F → Type 0)
    → List ℕ → Result L LockRefusal → S → Result Ending Refusal → S → Type 0
DropsLocked {S} does bytes may_leave can_fail path (Ok lock) s judged t =
    (done : S) × DropsAt does bytes may_leave can_fail path s judged done × does done (CheckAct.unlocked lock) t
DropsLocked {S} does bytes may_leave can_fail path (Err lock.InUse) s judged t =
    (said told : S) × does s (CheckAct.said news.InUse) said × does said (CheckAct.said news.NotDropped) told
    × JudgesAt does bytes may_leave can_fail path told judged t
DropsLocked does bytes may_leave can_fail path (Err lock.Device) s judged t = (s ≡ t) × (judged ≡ Err Device)
DropsLocked does bytes may_leave can_fail path (Err lock.Memory) s judged t = (s ≡ t) × (judged ≡ Err Memory)

-- ---- a run

-- The exit status is that of what was judged; why nothing was is told first.
abbrev pub EndsJudged : {S F L : Type 0} → (S → CheckAct F L → S → Type 0) → S → Result Ending Refusal → Ending → S → Type 0
EndsJudged does s (Ok judged) ending t = (s ≡ t) × (ending ≡ judged)
EndsJudged does s (Err e) ending t = does s (CheckAct.said (news.Refused e)) t × (ending ≡ Unjudged)

-- What is asked for is done: the lock is asked for first. Where nothing is asked for that the program does, it is told how it is called.
abbrev pub ChecksAsked : {S F L : Type 0} → (S → CheckAct F L → S → Type 0) → (F → FileName → Told) → (F → FileName → FileContent → Type 0) → (F → Type 0)
    → Asked → S → Ending → S → Type 0
ChecksAsked does bytes may_leave can_fail Asked.nothing s ending t = does s (CheckAct.said news.Usage) t × (ending ≡ Unjudged)
ChecksAsked {S} {F} {L} does bytes may_leave can_fail (Asked.judge path) s ending t =
    (answer : Result L LockRefusal) × (judged : Result Ending Refusal) × (asked done : S) × does s (CheckAct.shared path answer) asked
    × JudgesShared does bytes may_leave can_fail path answer asked judged done × EndsJudged does done judged ending t
ChecksAsked {S} {F} {L} does bytes may_leave can_fail (Asked.drop_torn path) s ending t =
    (answer : Result L LockRefusal) × (judged : Result Ending Refusal) × (asked done : S) × does s (CheckAct.locked path answer) asked
    × DropsLocked does bytes may_leave can_fail path answer asked judged done × EndsJudged does done judged ending t

-- what is asked for by words, which may be ones that can't be read
abbrev pub checks_asked : Option (List (List ℕ)) → Asked
checks_asked None = Asked.nothing
checks_asked (Some words) = asked_of words

-- The program does what its words ask for.
pub record RunsCheck {S F L : Type 0} (does : S → CheckAct F L → S → Type 0) (bytes : F → FileName → Told)
    (may_leave : F → FileName → FileContent → Type 0) (can_fail : F → Type 0) (s : S) (status : ℕ) (t : S) : Type 0 where
  pub words : Option (List (List ℕ))
  pub heard : S
  pub hears : does s (CheckAct.heard words) heard
  pub ending : Ending
  pub asked : ChecksAsked does bytes may_leave can_fail (checks_asked words) heard ending t
  pub status_is : status ≡ status_of ending
