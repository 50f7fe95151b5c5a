-- Lines in a row with their replies, and which commits a crash after them may leave.
use Rattle.std.specs.Prelude.{◌≡◌, ◌⊎◌, ℕ, List, [], ◌∷◌, Option, Some, Ok, Err}
use Rattle.cat_model.specs.Heard.{commit_text_of}
use Rattle.cat_model.specs.Lines.{Said}
use Rattle.cat_model.specs.Run.{Answer, Command, Reply}
use Rattle.cat_directory.specs.Devices.{FileContent}
use Rattle.cat_directory.specs.declared.name.FileName.{FileName}
use Rattle.cat_commands.specs.cat_protocol.lines.Line.{said_of}
use Rattle.cat_commands.specs.cat_protocol.declared.lines.line.Line.{Line}
use Rattle.cat_commands.specs.cat_ledger.Histories.{Call, Event, Goes, GoesBy, IsHistory, events_of}
use Rattle.cat_ledger_laws.specs.shape.Ties.{ToldFiles}
use Rattle.cat_ledger_laws.specs.shape.Tried.{TriedCommit}
use Rattle.cat_commands.specs.cat_protocol.replies.Reply.{reply_of}
use Rattle.cat_commands.specs.cat_protocol.declared.replies.reply.Reply as code
use Rattle.cat_service.specs.Causes.{HasCause, StaysIfWrong}
use Rattle.cat_service.specs.Worlds.{Service}

-- ---- lines in a row

-- what a line says, or that it has no form; its reply; and the world after it
pub record Spoken (D : Type 0) : Type 0 where
  pub said : Option Said
  pub reply : Reply
  pub after : Service D

-- The lines lead from the one to the other, each of which makes of commits what it may by its reply, and changes nothing where it is a
-- COMMIT that is refused for its text. The first two arguments say what a device tells of its files, and what a crash may leave of them.
abbrev pub IsSpoken : {D : Type 0} → (D → ToldFiles) → (D → FileName → FileContent → Type 0) → Service D → List (Spoken D) → Service D → Type 0
IsSpoken {D} bytes left first [] last = ◌≡◌ {A = Service D} last first
IsSpoken {D} bytes left first (x ∷ xs) last =
    GoesBy bytes left x.said x.reply first.ledger x.after.ledger × StaysIfWrong x.said first.ledger x.after.ledger × IsSpoken bytes left x.after xs last

-- ---- what they have to do with commits

-- A COMMIT that was answered OK is an answered commit of the generation that it was told; one that was refused, but not for its text, is a
-- refused commit that tried one of this text, or did nothing; and any other command has nothing to do with commits.
abbrev pub MakesEvent : Command → Reply → Event → Type 0
MakesEvent (Command.commit (Ok text)) (Ok (Answer.number g)) event = event ≡ Event.Answered g
MakesEvent (Command.commit (Ok text)) (Ok a) event = ⊥
MakesEvent (Command.commit (Ok text)) (Err e) event =
    (event ≡ Event.Other) ⊎ ((t : TriedCommit) × (t.commit.text ≡ text) × (event ≡ Event.Refused t))
MakesEvent c reply event = event ≡ Event.Other

-- so of what is said
abbrev pub IsEventOf : Option Said → Reply → Event → Type 0
IsEventOf (Some (Said.commit text)) reply event = MakesEvent (Command.commit (commit_text_of text)) reply event
IsEventOf said reply event = event ≡ Event.Other

-- so with each of the lines, in turn
abbrev pub AreEvents : {D : Type 0} → List (Spoken D) → List Event → Type 0
AreEvents [] [] = Unit {0}
AreEvents (x ∷ xs) (event ∷ events) = IsEventOf x.said x.reply event × AreEvents xs events
AreEvents _ _ = ⊥

-- Lines are calls of the ledger, so that its laws speak of them: of the last COMMIT that was answered, and of those refused after it.
abbrev pub LinesAreCalls : {D : Type 0} → (D → ToldFiles) → (D → FileName → FileContent → Type 0) → Service D → Type 0
LinesAreCalls {D} bytes left last =
    (first : Service D) (spoken : List (Spoken D)) → IsSpoken bytes left first spoken last
    → (calls : List (Call D)) × AreEvents spoken (events_of calls) × IsHistory bytes left first.ledger calls last.ledger

-- ---- lines that are answered one after another

-- they are these lines with these replies
abbrev pub AreSpoken : {D : Type 0} → List Line → List code.Reply → List (Spoken D) → Type 0
AreSpoken [] [] [] = Unit {0}
AreSpoken (line ∷ lines) (given ∷ replies) (x ∷ xs) =
    (x.said ≡ said_of line.command) × (x.reply ≡ reply_of given.answer) × AreSpoken lines replies xs
AreSpoken _ _ _ = ⊥

-- each reply has its cause in the world before its line
abbrev pub HaveCauses : {D : Type 0} → (D → ToldFiles) → (D → Type 0) → (D → ℕ) → Service D → List (Spoken D) → Type 0
HaveCauses bytes can_fail faults first [] = Unit {0}
HaveCauses bytes can_fail faults first (x ∷ xs) = HasCause bytes can_fail faults first x.said x.reply x.after × HaveCauses bytes can_fail faults x.after xs

-- The lines with their replies lead from the one to the other, and each reply has its cause. The first four arguments say what a device tells
-- of its files, whether it can fail, how many failures it has counted, and what a crash may leave.
pub record RunsHistory {D : Type 0} (bytes : D → ToldFiles) (can_fail : D → Type 0) (faults : D → ℕ) (left : D → FileName → FileContent → Type 0)
    (old : Service D) (lines : List Line) (replies : List code.Reply) (new : Service D) : Type 0 where
  pub spoken : List (Spoken D)
  pub are : AreSpoken lines replies spoken
  pub leads : IsSpoken bytes left old spoken new
  pub causes : HaveCauses bytes can_fail faults old spoken

-- ---- lines that are served

-- what a command with its reply makes of commits, from one world to the next
abbrev pub GoesTold : {D : Type 0} → (D → ToldFiles) → (D → FileName → FileContent → Type 0) → Command → Reply → Service D → Service D → Type 0
GoesTold bytes left c reply old new = (event : Event) × MakesEvent c reply event × Goes bytes left event old.ledger new.ledger
