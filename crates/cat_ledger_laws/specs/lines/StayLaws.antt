-- The laws of what an answered line leaves as it was, where some ledger is carried: who serves lines keeps its own state by them.
use Rattle.std.specs.Prelude.{◌≡◌, ℕ, ◌+◌, ◌≤◌, Bool, true, false}
use Rattle.cat_model.specs.Run.{Command, Line, Reply}
use Rattle.cat_model.specs.State.{held_in}
use Rattle.cat_model.specs.View.{View}
use Rattle.cat_ledger_laws.specs.model.Ledger.{Ledger}
use Rattle.cat_ledger_laws.specs.model.Plans.{MergePolicy}
use Rattle.cat_ledger_laws.specs.model.Stored.{FileBytes}
use Rattle.cat_ledger_laws.specs.shape.Shapes.{Shape}
use Rattle.cat_ledger_laws.specs.shape.Ties.{ToldFiles, Carries}
use Rattle.cat_ledger_laws.specs.lines.ReadLaws.{IsRecordedAs}
use Rattle.cat_ledger_laws.specs.lines.RunLaws.{AnswersCarried}

-- the fields,
abbrev pub SchemaStays : Type 0
SchemaStays =
    (policy : MergePolicy) (told told' : ToldFiles) (s new : Shape) (line : Line) (reply : Reply) (l : Ledger) (files : FileBytes)
    → Carries told s l files → AnswersCarried policy told s line reply told' new → new.schema ≡ s.schema

-- the command is an OPEN or a CLOSE
abbrev pub changes_holds : Command → Bool
changes_holds Command.open_newest = true
changes_holds (Command.open_at t) = true
changes_holds (Command.close t) = true
changes_holds _ = false

-- the holds, but for those two,
abbrev pub HoldsStay : Type 0
HoldsStay =
    (policy : MergePolicy) (told told' : ToldFiles) (s new : Shape) (line : Line) (reply : Reply) (l : Ledger) (files : FileBytes)
    → Carries told s l files → AnswersCarried policy told s line reply told' new → changes_holds line.command ≡ false → new.holds ≡ s.holds

-- and the view of each token that was held before the line.
abbrev pub HeldViewsStay : Type 0
HeldViewsStay =
    (policy : MergePolicy) (told told' : ToldFiles) (s new : Shape) (line : Line) (reply : Reply) (l : Ledger) (files : FileBytes)
    → Carries told s l files → AnswersCarried policy told s line reply told' new
    → (t : ℕ) (view : View) → held_in s.holds t ≡ true → IsRecordedAs s.views t view → IsRecordedAs new.views t view

-- A number that comes next is the same, or one more.
abbrev pub IsOneMoreAtMost : ℕ → ℕ → Type 0
IsOneMoreAtMost n next = (n ≤ next) × (next ≤ n + 1)

-- A line takes the number of one segment at most, and one generation, whatever it is answered: so what refuses lines uses up no numbers
-- beyond that.
abbrev pub NumbersRiseByOne : Type 0
NumbersRiseByOne =
    (policy : MergePolicy) (told told' : ToldFiles) (s new : Shape) (line : Line) (reply : Reply) (l : Ledger) (files : FileBytes)
    → Carries told s l files → AnswersCarried policy told s line reply told' new
    → IsOneMoreAtMost s.next_segment new.next_segment × IsOneMoreAtMost s.next_generation new.next_generation
