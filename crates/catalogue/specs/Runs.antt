-- What a run of the program does, and its exit status.
use Rattle.std.specs.Prelude.{◌≡◌, ℕ, Bool, true, false, List, Option, Some, None, Result, Ok, Err}
use Rattle.cat_model.specs.Text.{Text}
use Rattle.cat_model.specs.Told.{DirectoryKind}
use Rattle.cat_service.specs.cat_protocol.declared.serving.serving.ServeFault.TheVariants as fault
use Rattle.catalogue.specs.declared.endings.RunFault.{RunFault}
use Rattle.catalogue.specs.declared.endings.RunFault.TheVariants.{Serving}
use Rattle.catalogue.specs.declared.endings.Ending.{Ending}
use Rattle.catalogue.specs.declared.endings.Ending.TheVariants.{EndOfInput, WrongArguments}
use Rattle.catalogue.specs.Acts.{Act}
use Rattle.catalogue.specs.Asked.{Asked, asked_of}
use Rattle.catalogue.specs.Ended.{ending_of, status_of}
use Rattle.catalogue.specs.Served.{ServesMemory, ServesPath, ThreadsMemory, ThreadsPath}

-- It ends by what is told of serving; a fault is told on standard error.
abbrev pub EndsAs : {S F L I O : Type 0} → (S → Act F L I O → S → Type 0) → S → Result (Unit {0}) RunFault → Ending → S → Type 0
EndsAs does s (Ok u) ending t = (s ≡ t) × (ending ≡ EndOfInput)
EndsAs does s (Err fault) ending t = does s (Act.reported fault) t × (ending ≡ ending_of (Err fault))

-- so after serving
abbrev pub EndsAfter : {S F L I O : Type 0} → (S → Act F L I O → S → Type 0) → (S → Result (Unit {0}) RunFault → S → Type 0) → S → Ending → S → Type 0
EndsAfter {S} does serves s ending t = (told : Result (Unit {0}) RunFault) × (served : S) × serves s told served × EndsAs does served told ending t

-- so after the version was written, or wasn't
abbrev pub EndsVersion : {S F L I O : Type 0} → (S → Act F L I O → S → Type 0) → S → Bool → Ending → S → Type 0
EndsVersion does s true ending t = EndsAs does s (Ok tt) ending t
EndsVersion does s false ending t = EndsAs does s (Err (Serving fault.Write)) ending t

-- so it ends that tells the version
abbrev pub TellsVersion : {S F L I O : Type 0} → (S → Act F L I O → S → Type 0) → S → Ending → S → Type 0
TellsVersion {S} does s ending t = (written : Bool) × (told : S) × does s (Act.told_version written) told × EndsVersion does told written ending t

-- and that tells how the program is called
abbrev pub TellsUsage : {S F L I O : Type 0} → (S → Act F L I O → S → Type 0) → S → Ending → S → Type 0
TellsUsage does s ending t = does s Act.told_usage t × (ending ≡ WrongArguments)

-- What is asked for is done, and nothing else: the version, and how the program is called, are told without a word being read or a folder
-- being opened.
abbrev pub DoesAsked : {S F L I O : Type 0} → (S → Act F L I O → S → Type 0) → (I → Option Text) → (O → Option Text) → DirectoryKind F → Asked → S → Ending
    → S → Type 0
DoesAsked does remaining contents kind Asked.in_memory s ending t = EndsAfter does (ServesMemory does remaining contents) s ending t
DoesAsked does remaining contents kind (Asked.in_folder path) s ending t = EndsAfter does (ServesPath does remaining contents kind path) s ending t
DoesAsked does remaining contents kind (Asked.in_threads path) s ending t = EndsAfter does (ThreadsPath does remaining contents kind path 64) s ending t
DoesAsked does remaining contents kind (Asked.streamed_in_memory count) s ending t = EndsAfter does (ThreadsMemory does contents) s ending t
DoesAsked does remaining contents kind (Asked.streamed_in_folder count path) s ending t =
    EndsAfter does (ThreadsPath does remaining contents kind path count) s ending t
DoesAsked does remaining contents kind Asked.version s ending t = TellsVersion does s ending t
DoesAsked does remaining contents kind Asked.nothing s ending t = TellsUsage does s ending t

-- what is asked for by words, which may be ones that can't be read
abbrev pub asked_by : Option (List (List ℕ)) → Asked
asked_by None = Asked.nothing
asked_by (Some words) = asked_of words

-- The program does what its words ask for, and the exit status is that of how it ended.
pub record Runs {S F L I O : Type 0} (does : S → Act F L I O → S → Type 0) (remaining : I → Option Text) (contents : O → Option Text)
    (kind : DirectoryKind F) (s : S) (status : ℕ) (t : S) : Type 0 where
  pub words : Option (List (List ℕ))
  pub heard : S
  pub hears : does s (Act.heard words) heard
  pub ending : Ending
  pub asked : DoesAsked does remaining contents kind (asked_by words) heard ending t
  pub status_is : status ≡ status_of ending
