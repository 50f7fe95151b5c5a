-- What serving lines over a directory means: what was read and written, and what is left of the directory.
use Rattle.std.specs.Prelude.{◌≡◌, ◌⊎◌, ℕ, false, length, List, [], ◌∷◌, ◌++◌, codes, filter_map, Option, Some, IfSome, Result, Ok, Err}
use Rattle.std.specs.List.{flat_map, AllByRecursion}
use Rattle.std.specs.Fmt.{decimal}
use Rattle.cat_base.specs.declared.refusal.Refusal.{Refusal}
use Rattle.cat_base.specs.declared.refusal.Refusal.TheVariants.{Device, Memory}
use Rattle.cat_model.specs.Text.{Text}
use Rattle.cat_model.specs.Query.{Query}
use Rattle.cat_model.specs.Table.{Opened}
use Rattle.cat_model.specs.Answer.{Found}
use Rattle.cat_model.specs.Run.{Answer, Command, EachBehind, Fits, IsRun, Reply, Run, greatest, holds, view_tokens}
use Rattle.cat_model.specs.Lines.{IsReadable, line_text}
use Rattle.cat_model.specs.Heard.{Json}
use Rattle.cat_model.specs.Files.{Name}
use Rattle.cat_model.specs.Served.{Answered, Ending, HeardAll, NamesFiles, Outcome, Refused, ServesBy, SpellsSchema, exchange, outcome_text}
use Rattle.cat_model.specs.Told.{DirectoryKind, NoMore, TellsAlways}
use Rattle.cat_model.specs.Opens.{BeginsFrom}
use Rattle.cat_model.specs.Promised.{LeavesPromised, SurvivesCrash}

-- ---- replies that are alike

-- the replies are the same, but for the text of a stored item, of which only the length is
abbrev pub ReplyLike : Reply → Reply → Type 0
ReplyLike (Ok (Answer.found (Found.source (Some text)))) (Ok (Answer.found (Found.source (Some other)))) = length text ≡ length other
ReplyLike reply other = reply ≡ other

-- Lines are told the same, or the replies are alike: the text of a stored item may be another one of its length.
abbrev pub IsLike : Outcome → Outcome → Type 0
IsLike Outcome.unreadable Outcome.unreadable = Unit {0}
IsLike (Outcome.replied e) (Outcome.replied fitting) = (e.line ≡ fitting.line) × ReplyLike e.reply fitting.reply
IsLike _ _ = ⊥

-- so with each of them
abbrev pub AreLike : List Outcome → List Outcome → Type 0
AreLike [] [] = Unit {0}
AreLike (told ∷ tolds) (o ∷ os) = IsLike told o × AreLike tolds os
AreLike _ _ = ⊥

-- ---- want of memory

-- some OK fits the run, so that none of the refusals that the run tells is due to the command
abbrev pub OkFits : Opened → Run → ℕ → Command → Type 0
OkFits from run session c = (a : Answer) × Fits from run (record { line = record { session = session; command = c }; reply = Ok a })

-- Want of memory may be told of the session's command behind the run: where an OK fits. A line without a form and a CLOSE take none,
-- nor does an OPEN of a token that the session holds. What is due to a PUT is known only once its text was read, which takes memory; and of
-- a DELW it is known that its text spells a query.
abbrev pub MayWantIn : Opened → Run → ℕ → Command → Type 0
MayWantIn from run session Command.formless = ⊥
MayWantIn from run session (Command.close t) = ⊥
MayWantIn from run session (Command.put item) = Unit {0}
MayWantIn from run session (Command.delete_where query) = (q : Query) × (query ≡ Ok q)
MayWantIn from run session Command.open_newest =
    OkFits from run session Command.open_newest × (holds session (greatest (view_tokens from.start run)) run ≡ false)
MayWantIn from run session (Command.open_at t) = OkFits from run session (Command.open_at t) × (holds session t run ≡ false)
MayWantIn from run session c = OkFits from run session c

-- ---- a device that failed

-- where the line was told that the device failed, it can fail; the line may have been unreadable
abbrev pub FailsRightly : Type 0 → Outcome → Type 0
FailsRightly fails told = IfSome (exchange told) (λ e. e.reply ≡ Err Device → fails)

-- ---- the whole

-- The text answers the schema line and the lines behind it: with a run from where the directory is opened, in which the names of files
-- alone are told as names, and no source that is told has a line feed, and the replies to unreadable lines between. Want of memory hides
-- none of the refusals that the run tells, and where the device can't fail no line is told that it did. Of directories that don't tell of
-- their files, the text of a stored item may be another one of its length than the one that fits; of those that do, all that is told fits.
-- The directory that is left holds what the run promises at its end, and what a crash leaves of it is found.
pub record IsServedIn (json : Json) {D : Type 0} (kind : DirectoryKind D) (device left : D) (first : Text) (lines : List Text) (text : Text) : Type 0 where
  pub from : Opened
  pub begins : BeginsFrom json (kind.bytes device) first (Ok from)
  pub tolds : List Outcome
  pub heard_all : HeardAll json from.start.schema lines tolds
  pub fitting : List Outcome
  pub is_run : IsRun from (filter_map exchange fitting)
  pub alike : AreLike tolds fitting
  pub same : TellsAlways kind → tolds ≡ fitting
  pub wanting : EachBehind (λ past e. e.reply ≡ Err Memory → MayWantIn from past e.line.session e.line.command) [] (filter_map exchange fitting)
  pub files : AllByRecursion (λ told. IfSome (exchange told) (λ e. NamesFiles e.reply)) tolds
  pub failing : AllByRecursion (λ told. IfSome (exchange told) (λ e. e.reply ≡ Err Device → kind.can_fail device)) tolds
  pub promised : LeavesPromised kind left from (filter_map exchange fitting)
  pub survives : TellsAlways kind → SurvivesCrash (kind.may_leave left) from (filter_map exchange fitting)
  pub whole : text ≡ line_text (codes "OK" ∷ decimal from.start.token ∷ []) ++ flat_map outcome_text tolds

-- The line opens nothing: memory to read the schema's text was wanting, or the refusal is the one that it gets over the directory. And each
-- file is told as it was, and a crash may leave no more of it than it could have.
abbrev pub RefusesFirst : Json → {D : Type 0} → DirectoryKind D → (device left : D) → Text → Refusal → Type 0
RefusesFirst json kind device left first e =
    (((e ≡ Memory) × (IsReadable first × (factor least : ℕ) × (text : Text) × SpellsSchema first factor least text)) ⊎ BeginsFrom json (kind.bytes device) first (Err e))
    × ((q : Name) → kind.bytes left q ≡ kind.bytes device q) × ((q : Name) → NoMore (kind.may_leave device q) (kind.may_leave left q))

-- What is written answers the lines that were read: it is the text of a run that fits them, from where the directory is opened; and
-- another directory is left, which is the one that was given where no line is answered. The reader goes from `input` to `rest`, the writer
-- from `before` to `after`.
abbrev pub ServesIn : {D : Type 0} → Json → DirectoryKind D → (device left : D) → (input rest before after : Option Text)
    → Result (Unit {0}) Ending → Type 0
ServesIn {D = D} json kind device left =
    ServesBy (Answered (◌≡◌ {A = D} left device) (IsServedIn json kind device left))
    (Refused (◌≡◌ {A = D} left device) (RefusesFirst json kind device left))
