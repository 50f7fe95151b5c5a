-- When a line may be told that memory was wanting: where an answer may take some, and no refusal that comes before was due.
use Rattle.std.specs.Prelude.{◌≡◌, ℕ, ◌≤◌, false, Option, None, Some, Ok}
use Rattle.cat_model.specs.Limits.{last_number}
use Rattle.cat_model.specs.Lines.{Said}
use Rattle.cat_model.specs.Query.{Query}
use Rattle.cat_model.specs.Run.{Chore, Command, IsRun, Run}
use Rattle.cat_model.specs.Serving.{MayWantIn, OkFits}
use Rattle.cat_model.specs.State.{has_hold}
use Rattle.cat_model.specs.Table.{Opened}
use Rattle.cat_items.specs.Reading.{source_fault}
use Rattle.cat_commands.specs.cat_ledger.Grants.{IsAsked}
use Rattle.cat_commands.specs.cat_ledger_state.Cores.{MayNotFlush}
use Rattle.cat_ledger_laws.specs.lines.RunLaws.{Stands}
use Rattle.cat_ledger_laws.specs.shape.Shapes.{Shape}
use Rattle.cat_ledger_laws.specs.shape.Ties.{ToldFiles}
use Rattle.cat_commands.specs.cat_ledger.upkeep.Due.{IsForceDue}

-- ---- of what memory has

-- whatever run led to it, an OK fits
abbrev pub IsOkDue : ToldFiles → Shape → ℕ → Command → Type 0
IsOkDue told s session c =
    (from : Opened) (run : Run) → from.start.schema ≡ s.schema → IsRun from run → Stands told s from run → OkFits from run session c

-- whatever run led to it, want of memory may be told
abbrev pub WantsRightly : ToldFiles → Shape → ℕ → Command → Type 0
WantsRightly told s session c =
    (from : Opened) (run : Run) → from.start.schema ≡ s.schema → IsRun from run → Stands told s from run → MayWantIn from run session c

-- the token that is asked for, the newest one's where none is said, is one that the session doesn't hold
abbrev pub AsksUnheld : Shape → ℕ → Option ℕ → Type 0
AsksUnheld s session token = (t : ℕ) × IsAsked s token t × (has_hold s.holds session t ≡ false)

-- It may be told of what a session says, or of a line without a form, which is the command: so as behind each run. Of a PUT the text has
-- neither too many bytes nor none, and they are UTF-8. An OPEN asks for a token that the session doesn't hold. There is a number for the
-- segment that a REFRESH or a COMMIT makes of what waits, or that a FORCE makes of all, and one for a COMMIT itself; and a FORCE has
-- something to do.
abbrev pub MayWant : ToldFiles → Shape → ℕ → Option Said → Command → Type 0
MayWant told s session None c = ⊥
MayWant told s session (Some (Said.close t)) c = ⊥
MayWant told s session (Some (Said.put text)) c = source_fault text ≡ None
MayWant told s session (Some (Said.delete_where text)) c = (q : Query) × (c ≡ Command.delete_where (Ok q))
MayWant told s session (Some Said.open_newest) c = IsOkDue told s session c × AsksUnheld s session None
MayWant told s session (Some (Said.open_at t)) c = IsOkDue told s session c × AsksUnheld s session (Some t)
MayWant told s session (Some Said.refresh) c = IsOkDue told s session c × (MayNotFlush s → ⊥)
MayWant told s session (Some (Said.commit text)) c = IsOkDue told s session c × (MayNotFlush s → ⊥) × (s.next_generation ≤ last_number)
MayWant told s session (Some (Said.chore Chore.force)) c = IsOkDue told s session c × IsForceDue s × (s.next_segment ≤ last_number)
MayWant told s session (Some said) c = IsOkDue told s session c
