-- How a machine that its first line opens is served: what is said to its lines one after another, and how that ends.
use Rattle.std.specs.Prelude.{◌≡◌, ◌≤◌, ℕ, zero, suc, Option, Result, Ok, Err, List, [], ◌∷◌, ◌++◌, length, take}
use Rattle.std.specs.declared.io.Error.{Error}
use Rattle.std.specs.declared.io.ErrorKind.{ErrorKind}
use Rattle.std.specs.declared.io.ErrorKind.TheVariants.{Interrupted}
use Rattle.std.specs.IoError.{error_kind}
use Rattle.std.specs.Io.KnownBytes.{Appends, Consumes, IsAtEnd, Keeps}
use Rattle.cat_base.specs.declared.refusal.Refusal.{Refusal}
use Rattle.cat_base.specs.declared.refusal.Refusal.TheVariants.{Memory}
use Rattle.cat_model.specs.Text.{Text, one_or_none}
use Rattle.cat_model.specs.Served.{Outcome, outcome_text, refused_text, AppendsFront, Ending}
use Rattle.cat_protocol.specs.declared.sending.pieces.WriteFault.{WriteFault}
use Rattle.cat_protocol.specs.serving.Machine.{short_line, opened_text, IsAnsweredByMachine, Steps}
use Rattle.cat_protocol.specs.declared.serving.machine.Stage.{Stage}
use Rattle.cat_protocol.specs.declared.serving.machine.Stage.TheVariants.{Waiting, Refused, Open}
use Rattle.cat_protocol.specs.declared.serving.machine.Unopened.{Unopened}
use Rattle.cat_protocol.specs.declared.serving.serving.Came.{Came}
use Rattle.cat_protocol.specs.declared.serving.serving.Came.TheVariants as came
use Rattle.cat_protocol.specs.declared.serving.serving.ServeFault.{ServeFault}
use Rattle.cat_protocol.specs.declared.serving.serving.ServeFault.TheVariants as fault

abbrev pub ended_as : Result (Unit {0}) ServeFault → Result (Unit {0}) Ending
ended_as (Ok u) = Ok u
ended_as (Err fault.Schema) = Err Ending.schema
ended_as (Err fault.Read) = Err Ending.read
ended_as (Err fault.Write) = Err Ending.write

-- how serving ends where a write ended so
abbrev pub ended_of : Result (Unit {0}) WriteFault → Result (Unit {0}) ServeFault
ended_of (Ok u) = Ok u
ended_of (Err e) = Err fault.Write

-- what a call of the reader brought that fails so: nothing where a signal interrupted it, which is no fault
abbrev pub came_at : ErrorKind → Came
came_at Interrupted = came.Nothing
came_at kind = came.Fault

-- what a call of the reader brought that answers so: no bytes are the end
abbrev pub came_by : Result ℕ Error → Came
came_by (Ok zero) = came.End
came_by (Ok (suc n)) = came.Bytes (suc n)
came_by (Err e) = came_at (error_kind e)

-- what one call of the reader brought
abbrev pub Comes : (input left : Option Text) → Text → Came → Type 0
Comes input left chunk (came.Bytes n) = Consumes input left (take n chunk) × (n ≤ length chunk)
Comes input left chunk came.Nothing = Keeps input left
Comes input left chunk came.End = Keeps input left × IsAtEnd left
Comes input left chunk came.Fault = Keeps input left

-- ---- one line

-- a line can be served: none was refused
abbrev pub IsReady : {M S : Type 0} → Stage M S → Type 0
IsReady (Waiting seed) = Unit {0}
IsReady (Refused back) = ⊥
IsReady (Open machine) = Unit {0}

-- What is said to a line, and the stage behind it. Where a seed waits, the line opens a machine from it or is refused.
abbrev pub Says : {M S : Type 0} → (S → Option Text → Result M (Unopened S) → Type 0)
    → (M → Option Text → Outcome → M → Type 0) → (M → ℕ) → Stage M S → Option Text → Text → Stage M S → Type 0
Says opens step token (Waiting seed) line text (Waiting now) = ⊥
Says opens step token (Waiting seed) line text (Refused back) =
    (e : Refusal) × opens seed line (Err (record { refusal = e; seed = back })) × (text ≡ refused_text e)
Says opens step token (Waiting seed) line text (Open new) =
    opens seed line (Ok new) × (text ≡ opened_text (token new))
Says opens step token (Refused seed) line text new = ⊥
Says opens step token (Open old) line text (Waiting now) = ⊥
Says opens step token (Open old) line text (Refused back) = ⊥
Says opens step token (Open old) line text (Open new) =
    (told : Outcome) × step old line told new × (text ≡ outcome_text told)

-- a refusal is said: all of its text went out, or a front of it
abbrev pub IsRefusedAs : (before after : Option Text) → Text → ServeFault → Type 0
IsRefusedAs before after text fault.Schema = Appends before after text
IsRefusedAs before after text fault.Read = ⊥
IsRefusedAs before after text fault.Write = AppendsFront before after text

-- ---- lines, one after another

-- what is said to all of the lines, where none is refused
abbrev pub SaysAll : {M S : Type 0} → (Stage M S → Option Text → Text → Stage M S → Type 0) → Stage M S
    → List (Option Text) → Text → Stage M S → Type 0
SaysAll says old [] text new = (new ≡ old) × (text ≡ [])
SaysAll {M = M} says old (line ∷ lines) text new =
    (here more : Text) × (mid : M) × says old line here (Open mid) × SaysAll says (Open mid) lines more new
    × (text ≡ here ++ more)

-- what is said to the first of the lines, up to one behind which nothing more is said
pub record SaysUpTo {M S : Type 0} (says : Stage M S → Option Text → Text → Stage M S → Type 0) (old : Stage M S)
    (lines : List (Option Text)) (text : Text) (new : Stage M S) : Type 0 where
  pub before : List (Option Text)
  pub line : Option Text
  pub behind : List (Option Text)
  pub whole : before ++ line ∷ behind ≡ lines
  pub said : Text
  pub mid : Stage M S
  pub all : SaysAll says old before said mid
  pub here : Text
  pub last : says mid line here new
  pub text_is : text ≡ said ++ here

-- how serving the lines may end, and what went out then
abbrev pub LinesEnd : {M S : Type 0} → (Stage M S → Option Text → Text → Stage M S → Type 0) → Stage M S
    → List (Option Text) → Stage M S → (before after : Option Text) → Result (Unit {0}) ServeFault → Type 0
-- all are answered
LinesEnd says old lines new before after (Ok u) =
    (text : Text) × SaysAll says old lines text new × Appends before after text
-- one is refused, so that no machine stands open
LinesEnd {S = S} says old lines new before after (Err fault.Schema) =
    (text : Text) × (back : S) × (new ≡ Refused back) × SaysUpTo says old lines text new
    × Appends before after text
-- no line needs a reader
LinesEnd says old lines new before after (Err fault.Read) = ⊥
-- a front went out of what is said up to one of them
LinesEnd says old lines new before after (Err fault.Write) =
    (text : Text) × SaysUpTo says old lines text new × AppendsFront before after text

-- The lines are served, the stage goes from `old` to `new`, and the writer from `before` to `after`.
pub record ServesLines {M S : Type 0} (says : Stage M S → Option Text → Text → Stage M S → Type 0)
    (old : Stage M S) (lines : List (Option Text)) (new : Stage M S) (before after : Option Text)
    (result : Result (Unit {0}) ServeFault) : Type 0 where
  pub ends : LinesEnd says old lines new before after result

-- what was written is handed on, which may fail, unless serving had ended early
abbrev pub IsFlushed : Result (Unit {0}) ServeFault → (went after : Option Text) → Result (Unit {0}) ServeFault → Type 0
IsFlushed (Ok u) went after result = (sent : Result (Unit {0}) WriteFault) × Keeps went after × (result ≡ ended_of sent)
IsFlushed (Err f) went after result = (went ≡ after) × (result ≡ Err f)

-- the lines are served so, and what was written is handed on
pub record ServesFlushed {M S : Type 0} (says : Stage M S → Option Text → Text → Stage M S → Type 0)
    (old : Stage M S) (lines : List (Option Text)) (new : Stage M S) (before after : Option Text)
    (result : Result (Unit {0}) ServeFault) : Type 0 where
  pub went : Option Text
  pub ended : Result (Unit {0}) ServeFault
  pub serves : ServesLines says old lines new before went ended
  pub flushed : IsFlushed ended went after result

-- what is left to be served where the input ends: a line that no line feed ended, and for the first line also an empty
-- one
abbrev pub last_lines : {M S : Type 0} → Stage M S → Text → List Text
last_lines (Waiting seed) gathered = gathered ∷ []
last_lines (Refused back) gathered = []
last_lines (Open machine) gathered = one_or_none gathered

-- ---- the whole

-- How a stage comes of a seed: the seed waits as it was, or is what opening by a line gave back, or opening by a line gave a
-- machine that steps, one after another, left so.
abbrev pub StandsFrom : {M S : Type 0} → (S → Option Text → Result M (Unopened S) → Type 0)
    → (M → Option Text → Outcome → M → Type 0) → S → Stage M S → Type 0
StandsFrom opens step seed (Waiting now) = now ≡ seed
StandsFrom opens step seed (Refused back) =
    (line : Option Text) × (e : Refusal) × opens seed line (Err (record { refusal = e; seed = back }))
StandsFrom {M = M} opens step seed (Open left) =
    (line : Option Text) × (opened : M) × opens seed line (Ok opened)
    × (lines : List (Option Text)) × (outcomes : List Outcome) × Steps step opened lines outcomes left

-- The text answers the lines, and the stage is what they lead to: the first opened the machine, and each line behind it
-- was one step. Where none has come, the seed waits as it was.
abbrev pub LeadsTo : {M S : Type 0} → (S → Option Text → Result M (Unopened S) → Type 0)
    → (M → Option Text → Outcome → M → Type 0) → (M → ℕ) → S → Stage M S → List Text → Text → Type 0
LeadsTo opens step token seed stage [] text = (stage ≡ Waiting seed) × (text ≡ [])
LeadsTo opens step token seed stage (first ∷ lines) text =
    (so : IsAnsweredByMachine (opens seed) step token first lines text) × (stage ≡ Open so.left)

-- The first line is refused, and the stage has the seed that opening gave back. Where none has come, memory to read one
-- is wanting, and the seed waits as it was.
abbrev pub RefusedAt : {M S : Type 0} → (S → Option Text → Result M (Unopened S) → Type 0) → S → Stage M S
    → List Text → Refusal → Type 0
RefusedAt opens seed stage [] e = (stage ≡ Waiting seed) × (e ≡ Memory)
RefusedAt {S = S} opens seed stage (first ∷ lines) e =
    (back : S) × opens seed (short_line first) (Err (record { refusal = e; seed = back })) × (stage ≡ Refused back)
