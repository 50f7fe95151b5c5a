-- A world of sessions as what is served: what its schema line opens, and what each line behind it does.
use Rattle.std.specs.Prelude.{◌≡◌, Option, None, Some, Result, Err, IfOk}
use Rattle.cat_base.specs.declared.refusal.Refusal.TheVariants.{Device, Line as NoForm, Memory}
use Rattle.cat_model.specs.Answer.{Read}
use Rattle.cat_model.specs.Heard.{Hears}
use Rattle.cat_model.specs.Run.{Chore, Command}
use Rattle.cat_model.specs.Served.{NamesFiles, Outcome, heard}
use Rattle.cat_model.specs.Text.{Text}
use Rattle.cat_items.specs.Reading.{json}
use Rattle.cat_directory.specs.Devices.{FileContent}
use Rattle.cat_directory.specs.declared.name.FileName.{FileName}
use Rattle.cat_commands.specs.cat_ledger.Histories.{FoundIsTaken, FoundIsTried, LeavesNoneAhead, NoneIsLost}
use Rattle.cat_commands.specs.cat_ledger.Lasting.{AlwaysTells}
use Rattle.cat_ledger_laws.specs.shape.Ties.{ToldFiles}
use Rattle.cat_ledger_laws.specs.lines.RunLaws.{IsStep}
use Rattle.cat_commands.specs.cat_protocol.declared.serving.machine.Stage.{Stage}
use Rattle.cat_commands.specs.cat_protocol.declared.serving.machine.Stage.TheVariants.{Waiting, Refused, Open}
use Rattle.cat_commands.specs.cat_protocol.declared.serving.machine.Unopened.{Unopened}
use Rattle.cat_service.specs.Histories.{GoesTold}
use Rattle.cat_service.specs.Opening.{OpensWorld}
use Rattle.cat_service.specs.Promises.{WorldLasts}
use Rattle.cat_service.specs.Wanting.{WantsRightly}
use Rattle.cat_service.specs.Worlds.{Service, device_of, shape_of_service}

-- ---- as a machine

-- what opening by a first line may give, which may be too long
abbrev pub OpensIfShort : {D : Type 0} → (D → ToldFiles) → (D → FileName → FileContent → Type 0) → (D → Type 0) → D → Option Text
    → Result (Service D) (Unopened D) → Type 0
OpensIfShort bytes may_leave can_fail device None r = r ≡ Err (record { refusal = NoForm; seed = device })
OpensIfShort bytes may_leave can_fail device (Some line) r =
    OpensWorld bytes may_leave device line r × IfOk r (λ w. AlwaysTells bytes → LeavesNoneAhead may_leave w.ledger)
    × IfOk r (λ w. can_fail (device_of w) → can_fail device)

-- Where the command is told that the device failed, the device can fail. No run tells another command so.
abbrev pub MayFailBy : Type 0 → Command → Type 0
MayFailBy fails (Command.put item) = fails
MayFailBy fails Command.refresh = fails
MayFailBy fails (Command.read t (Read.get id)) = fails
MayFailBy fails (Command.commit text) = fails
MayFailBy fails (Command.chore Chore.merge) = fails
MayFailBy fails (Command.chore Chore.force) = fails
MayFailBy fails (Command.chore Chore.sweep) = fails
MayFailBy fails c = Unit {0}

-- An unreadable line changes nothing. The reply to another is a step of every run that led here, tells no names but those of files, and
-- want of memory only where that may be; what it makes of commits is known by it; and a failure of the device only where that can fail.
abbrev pub ChangesByOutcome : {D : Type 0} → (D → ToldFiles) → (D → FileName → FileContent → Type 0) → (D → Type 0) → Service D → Outcome → Service D
    → Type 0
ChangesByOutcome bytes may_leave can_fail old Outcome.unreadable new = new ≡ old
ChangesByOutcome bytes may_leave can_fail old (Outcome.replied e) new =
    ((shape_of_service new).schema ≡ (shape_of_service old).schema) × NamesFiles e.reply
    × IsStep (bytes (device_of old)) (shape_of_service old) e.line e.reply (bytes (device_of new)) (shape_of_service new)
    × (e.reply ≡ Err Memory → WantsRightly (bytes (device_of old)) (shape_of_service old) e.line.session e.line.command)
    × GoesTold bytes may_leave e.line.command e.reply old new
    × (e.reply ≡ Err Device → MayFailBy (can_fail (device_of old)) e.line.command)
    × (can_fail (device_of new) → can_fail (device_of old))

-- a line, which may be too long, is heard and changes the world
abbrev pub StepsIfShort : {D : Type 0} → (D → ToldFiles) → (D → FileName → FileContent → Type 0) → (D → Type 0) → Service D → Option Text
    → Outcome → Service D → Type 0
StepsIfShort bytes may_leave can_fail old None told new = (told ≡ Outcome.unreadable) × (new ≡ old)
StepsIfShort bytes may_leave can_fail old (Some line) told new =
    Hears json (shape_of_service old).schema line (heard told) × ChangesByOutcome bytes may_leave can_fail old told new

-- ---- as it is served

-- the directory of a stage: of one that stands open, the world's
abbrev pub device_at : {D : Type 0} → Stage (Service D) D → D
device_at (Waiting device) = device
device_at (Refused device) = device
device_at (Open w) = device_of w

-- a crash leaves the files of the newest commit of a world that stands open
abbrev pub StageLasts : {D : Type 0} → (D → ToldFiles) → (D → FileName → FileContent → Type 0) → Stage (Service D) D → Type 0
StageLasts bytes may_leave (Waiting device) = Unit {0}
StageLasts bytes may_leave (Refused device) = Unit {0}
StageLasts bytes may_leave (Open w) = WorldLasts bytes may_leave w

-- and the newest commit outlives it, and whatever commit is found has a generation that isn't given out again
abbrev pub StageOutlives : {D : Type 0} → (D → ToldFiles) → (D → FileName → FileContent → Type 0) → Stage (Service D) D → Type 0
StageOutlives bytes may_leave (Waiting device) = Unit {0}
StageOutlives bytes may_leave (Refused device) = Unit {0}
StageOutlives bytes may_leave (Open w) =
    FoundIsTried bytes may_leave w.ledger × NoneIsLost bytes may_leave w.ledger × FoundIsTaken bytes may_leave w.ledger
