-- A service in memory, which is what a plain catalogue means: what its schema line opens, and what each line behind it
-- changes.
use Rattle.std.specs.Prelude.{◌≡◌, ◌⊎◌, IsTrue, Bool, true, false, not, ℕ, Option, None, Some, Result, Ok, Err}
use Rattle.cat_base.specs.declared.refusal.Refusal.{Refusal}
use Rattle.cat_base.specs.declared.refusal.Refusal.TheVariants.{Memory}
use Rattle.cat_model.specs.Text.{Text}
use Rattle.cat_model.specs.Item.{Schema}
use Rattle.cat_model.specs.Table.{Opened}
use Rattle.cat_model.specs.Run.{Answer, Command, Reply, greatest}
use Rattle.cat_model.specs.State.{State, Moves, IsFresh, opened_as, has_hold, has_view, tokens}
use Rattle.cat_model.specs.Lines.{Said}
use Rattle.cat_model.specs.Served.{Begins, HasSchemaText, OpensEmpty}
use Rattle.cat_search.specs.cat_items.Reading.{json, source_fault}

-- a service, and the schema that it was opened under
pub record PlainService : Type 0 where
  pub schema : Schema
  pub state : State

-- how a service is opened that begins as this one is
abbrev pub beginning_of : PlainService → Opened
beginning_of w = opened_as w.schema w.state

-- ---- the schema line

-- what opening by the text of a line may give
abbrev pub OpensPlain : Text → Result PlainService Refusal → Type 0
OpensPlain line (Ok w) = Begins json OpensEmpty line (Ok (beginning_of w)) × IsFresh w.state
OpensPlain line (Err e) = ((e ≡ Memory) × HasSchemaText line) ⊎ Begins json OpensEmpty line (Err e)

-- ---- commands

-- what is wrong with the text of a PUT before it is read as JSON: there is too much of it, or none
abbrev pub put_fault : Option Said → Option Refusal
put_fault (Some (Said.put text)) = source_fault text
put_fault _ = None

-- The command takes memory: not without a form, no DEL, no CLOSE, no REFRESH of a table that is recorded, no OPEN of a token that
-- the session holds.
abbrev pub may_grow : State → ℕ → Command → Bool
may_grow st s (Command.put item) = true
may_grow st s (Command.delete_where q) = true
may_grow st s Command.refresh = not (has_view st.views st.count)
may_grow st s Command.open_newest = not (has_hold st.holds s (greatest (tokens st.views)))
may_grow st s (Command.open_at t) = not (has_hold st.holds s t)
may_grow st s (Command.read t asked) = true
may_grow st s (Command.prune n) = true
may_grow st s _ = false

-- an OPEN of the token, or of the newest
abbrev pub open_command : Option ℕ → Command
open_command None = Command.open_newest
open_command (Some t) = Command.open_at t

-- an OK is due
abbrev pub IsOkDuePlainly : Schema → State → ℕ → Command → Type 0
IsOkDuePlainly schema st s c = (a : Answer) × (mid : State) × Moves schema st s c (Ok a) mid

-- Want of memory may be told: where the command takes some, and nothing but an OK is due. What is due to a PUT is known only
-- once its text was read, which takes memory.
abbrev pub MayWantPlainly : Schema → State → ℕ → Command → Type 0
MayWantPlainly schema st s (Command.put item) = Unit {0}
MayWantPlainly schema st s c = IsTrue (may_grow st s c) × IsOkDuePlainly schema st s c

-- From old, a service in memory may reply so to the session's command and go on to new. It has no device and no files, so
-- nothing but want of memory stops a line, and what is stopped changes nothing.
abbrev pub DoesPlainly : Schema → State → ℕ → Command → Reply → State → Type 0
DoesPlainly schema old s c r new = Moves schema old s c r new ⊎ ((r ≡ Err Memory) × MayWantPlainly schema old s c × (new ≡ old))
