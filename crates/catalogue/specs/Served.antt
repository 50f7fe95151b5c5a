-- What serving over the program's streams, and over the folder of a path, comes to: what is asked of the system, in this order, and nothing
-- else.
--
-- S is the type of systems, F that of their folders, L that of the locks of these, I and O those of standard input and standard output.
-- `does` says what is done from one state of a system to the next, `remaining` what there is to read, `contents` what was written, and
-- `kind` how folders behave.
use Rattle.std.specs.Prelude.{◌≡◌, ◌⊎◌, ℕ, Bool, true, false, List, [], Option, Some, None, Result, Err, MatchResult}
use Rattle.std.specs.declared.alloc.AllocError.{AllocError}
use Rattle.cat_base.specs.declared.refusal.Refusal.TheVariants.{Memory}
use Rattle.cat_model.specs.Text.{Text}
use Rattle.cat_model.specs.Told.{DirectoryKind}
use Rattle.cat_model.specs.Served.{refused_text}
use Rattle.cat_model.specs.Serving.{ServesIn}
use Rattle.cat_model.specs.Reasons.{CausesIn}
use Rattle.cat_items.specs.Reading.{json}
use Rattle.cat_directory.specs.declared.lock.LockRefusal.{LockRefusal}
use Rattle.cat_directory.specs.declared.lock.LockRefusal.TheVariants as refusal
use Rattle.cat_directory.specs.declared.memory.MemoryDirectory.{MemoryDirectory}
use Rattle.cat_directory.specs.declared.name.FileName.{FileName}
use Rattle.cat_directory.specs.Memory.{bytes_of, failures_of}
use Rattle.cat_directory.specs.Names.{by_names}
use Rattle.cat_service.specs.cat_protocol.declared.serving.serving.ServeFault.{ServeFault}
use Rattle.cat_service.specs.cat_protocol.serving.Serving.{IsRefusedAs, ended_as}
use Rattle.cat_callers.specs.declared.threads.Fault.{Fault as ThreadsFault}
use Rattle.catalogue.specs.declared.endings.RunFault.{RunFault}
use Rattle.catalogue.specs.Acts.{Act}
use Rattle.catalogue.specs.Ended.{in_use_fault, serving_told, threads_told}

-- ---- one directory

-- The lines of standard input were served over the device to standard output, and that ended so and left the other device; nothing else was
-- read or written.
pub record ServesStreams {S F L I O D : Type 0} (does : S → Act F L I O → S → Type 0) (remaining : I → Option Text) (contents : O → Option Text)
    (kind : DirectoryKind D) (device left : D) (s : S) (ended : Result (Unit {0}) ServeFault) (t : S) : Type 0 where
  pub input : I
  pub rest : I
  pub before : O
  pub after : O
  pub streamed : S
  pub read : S
  pub streams : does s (Act.streamed input before) streamed
  pub served : ServesIn json kind device left (remaining input) (remaining rest) (contents before) (contents after) (ended_as ended)
  pub caused : CausesIn json kind device left (remaining input) (remaining rest) (contents before) (contents after) (ended_as ended)
  pub reads : does streamed (Act.closed_input rest) read
  pub writes : does read (Act.closed_output after) t

-- Memory was wanting before a line was read, which is written as of a schema line, or a front of it where that fails. Nothing is read.
pub record RefusesAtOnce {S F L I O : Type 0} (does : S → Act F L I O → S → Type 0) (contents : O → Option Text) (s : S)
    (ended : Result (Unit {0}) ServeFault) (t : S) : Type 0 where
  pub input : I
  pub before : O
  pub after : O
  pub streamed : S
  pub read : S
  pub streams : does s (Act.streamed input before) streamed
  pub why : ServeFault
  pub refused : IsRefusedAs (contents before) (contents after) (refused_text Memory) why
  pub ended_is : ended ≡ Err why
  pub reads : does streamed (Act.closed_input input) read
  pub writes : does read (Act.closed_output after) t

-- files in memory, as a device
abbrev pub memory_kind : DirectoryKind MemoryDirectory
memory_kind = by_names bytes_of (λ d q e. bytes_of d q ≡ Some e) (λ d. ⊥) failures_of

-- so it went over files in memory, of which none was there, and is told
abbrev pub ServesMemory : {S F L I O : Type 0} → (S → Act F L I O → S → Type 0) → (I → Option Text) → (O → Option Text) → S
    → Result (Unit {0}) RunFault → S → Type 0
ServesMemory does remaining contents s told t =
    (ended : Result (Unit {0}) ServeFault) × (device left : MemoryDirectory) × ((q : FileName) → bytes_of device q ≡ Some None)
    × ServesStreams does remaining contents memory_kind device left s ended t × (told ≡ serving_told ended)

-- ---- the folder of a path

-- so it went over the folder, which is let go as serving left it
abbrev pub ServesFolder : {S F L I O : Type 0} → (S → Act F L I O → S → Type 0) → (I → Option Text) → (O → Option Text) → DirectoryKind F → F → S
    → Result (Unit {0}) ServeFault → S → Type 0
ServesFolder {S} {F} does remaining contents kind folder s ended t =
    (left : F) × (served : S) × ServesStreams does remaining contents kind folder left s ended served × does served (Act.left left) t

-- and over the folder at the path, unless memory for it was wanting
abbrev pub ServesAt : {S F L I O : Type 0} → (S → Act F L I O → S → Type 0) → (I → Option Text) → (O → Option Text) → DirectoryKind F → List ℕ → S
    → Result (Unit {0}) ServeFault → S → Type 0
ServesAt {S} {F} does remaining contents kind path s ended t =
    (answer : Result F AllocError) × (opened : S) × does s (Act.opened path answer) opened
    × MatchResult answer (λ folder. ServesFolder does remaining contents kind folder opened ended t) (λ e. RefusesAtOnce does contents opened ended t)

-- and this is told
abbrev pub TellsServed : {S : Type 0} → (S → Result (Unit {0}) ServeFault → S → Type 0) → S → Result (Unit {0}) RunFault → S → Type 0
TellsServed serves s told t = (ended : Result (Unit {0}) ServeFault) × serves s ended t × (told ≡ serving_told ended)

-- What is told where the lock of a folder isn't had: lines were served over the folder of no path, and that the folder is in use is told
-- where it is, unless a read or a write failed; or memory was wanting.
abbrev pub ServesUnlocked : {S F L I O : Type 0} → (S → Act F L I O → S → Type 0) → (I → Option Text) → (O → Option Text) → DirectoryKind F
    → LockRefusal → S → Result (Unit {0}) RunFault → S → Type 0
ServesUnlocked does remaining contents kind refusal.InUse s told t =
    (ended : Result (Unit {0}) ServeFault) × ServesAt does remaining contents kind [] s ended t × (told ≡ Err (in_use_fault ended))
ServesUnlocked does remaining contents kind refusal.Device s told t = TellsServed (ServesAt does remaining contents kind []) s told t
ServesUnlocked does remaining contents kind refusal.Memory s told t = TellsServed (RefusesAtOnce does contents) s told t

-- The lock, which is had, is kept until what the first argument says was done.
abbrev pub KeepsLock : {S F L I O : Type 0} → (S → Result (Unit {0}) RunFault → S → Type 0) → (S → Act F L I O → S → Type 0) → L → S
    → Result (Unit {0}) RunFault → S → Type 0
KeepsLock {S} locked does lock s told t = (done : S) × locked s told done × does done (Act.unlocked lock) t

-- The lock of the path's folder is asked for: where it is had, it is kept so.
abbrev pub LocksFirst : {S F L I O : Type 0} → (S → Result (Unit {0}) RunFault → S → Type 0) → (S → Act F L I O → S → Type 0) → (I → Option Text)
    → (O → Option Text) → DirectoryKind F → List ℕ → S → Result (Unit {0}) RunFault → S → Type 0
LocksFirst {S} {L = L} locked does remaining contents kind path s told t =
    (answer : Result L LockRefusal) × (asked : S) × does s (Act.locked path answer) asked
    × MatchResult answer (λ lock. KeepsLock locked does lock asked told t)
    (λ e. ServesUnlocked does remaining contents kind e asked told t)

-- so it is told of serving over the folder of the path
abbrev pub ServesPath : {S F L I O : Type 0} → (S → Act F L I O → S → Type 0) → (I → Option Text) → (O → Option Text) → DirectoryKind F → List ℕ → S
    → Result (Unit {0}) RunFault → S → Type 0
ServesPath does remaining contents kind path =
    LocksFirst (TellsServed (ServesAt does remaining contents kind path)) does remaining contents kind path

-- ---- in threads

-- The lines of standard input are answered by threads, to standard output: what they are told, no clause says.
pub record ThreadsStreams {S F L I O : Type 0} (does : S → Act F L I O → S → Type 0) (s : S) (told : Result (Unit {0}) RunFault) (t : S) : Type 0 where
  pub input : I
  pub rest : I
  pub output : O
  pub streamed : S
  pub streams : does s (Act.streamed input output) streamed
  pub reads : does streamed (Act.closed_input rest) t
  pub served : Result (Unit {0}) ThreadsFault
  pub told_is : told ≡ threads_told served

-- so over the folder, of whose path there are so many shelves, unless memory for these was wanting
abbrev pub ThreadsShelved : {S F L I O : Type 0} → (S → Act F L I O → S → Type 0) → (O → Option Text) → F → Bool → S
    → Result (Unit {0}) RunFault → S → Type 0
ThreadsShelved does contents folder true s told t = ThreadsStreams does s told t
ThreadsShelved {S} does contents folder false s told t =
    (left : S) × does s (Act.left folder) left × TellsServed (RefusesAtOnce does contents) left told t

abbrev pub ThreadsFolder : {S F L I O : Type 0} → (S → Act F L I O → S → Type 0) → (O → Option Text) → List ℕ → ℕ → F → S
    → Result (Unit {0}) RunFault → S → Type 0
ThreadsFolder {S} does contents path count folder s told t =
    (had : Bool) × (shelved : S) × does s (Act.shelved path count had) shelved × ThreadsShelved does contents folder had shelved told t

-- and over the folder at the path, unless memory for it was wanting
abbrev pub ThreadsAt : {S F L I O : Type 0} → (S → Act F L I O → S → Type 0) → (O → Option Text) → List ℕ → ℕ → S
    → Result (Unit {0}) RunFault → S → Type 0
ThreadsAt {S} {F} does contents path count s told t =
    (answer : Result F AllocError) × (opened : S) × does s (Act.opened path answer) opened
    × MatchResult answer (λ folder. ThreadsFolder does contents path count folder opened told t)
    (λ e. TellsServed (RefusesAtOnce does contents) opened told t)

abbrev pub ThreadsPath : {S F L I O : Type 0} → (S → Act F L I O → S → Type 0) → (I → Option Text) → (O → Option Text) → DirectoryKind F
    → List ℕ → ℕ → S → Result (Unit {0}) RunFault → S → Type 0
ThreadsPath does remaining contents kind path count = LocksFirst (ThreadsAt does contents path count) does remaining contents kind path

-- and in memory
abbrev pub ThreadsMemory : {S F L I O : Type 0} → (S → Act F L I O → S → Type 0) → (O → Option Text) → S → Result (Unit {0}) RunFault → S → Type 0
ThreadsMemory does contents s told t = ThreadsStreams does s told t ⊎ TellsServed (RefusesAtOnce does contents) s told t
