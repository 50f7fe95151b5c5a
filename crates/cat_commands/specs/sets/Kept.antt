-- What was made of lists of segments, as the ordinals of a field's labels over a view, and is kept beside a ledger: here only the
-- lists that it was made of.
use Rattle.std.specs.Prelude.{◌≢◌, ℕ, ◌<◌, List, All}
use Rattle.cat_model.specs.View.{Segment, AgreesWith}
use Rattle.cat_ledger_laws.specs.shape.Shapes.{Shape}
use Rattle.cat_commands.specs.sets.Beside.{IsRightBeside}

-- none of the lists has another segment of this one's number
abbrev pub ListsKnow : List (List Segment) → Segment → Type 0
ListsKnow lists s = All (λ segments. All (AgreesWith s) segments) lists

-- the numbers of all of their segments are below this
abbrev pub AreBelow : ℕ → List (List Segment) → Type 0
AreBelow n lists = All (λ segments. All (λ s. s.number < n) segments) lists

-- none of them has a segment of the number
abbrev pub HaveNoneOf : List (List Segment) → ℕ → Type 0
HaveNoneOf lists n = All (λ segments. All (λ s. s.number ≢ n) segments) lists

-- whatever segment was known is, if none of these is another of its number
abbrev pub RemembersIn : List Segment → List (List Segment) → List (List Segment) → Type 0
RemembersIn segments old new = (s : Segment) → All (AgreesWith s) segments → ListsKnow old s → ListsKnow new s

-- numbers stay below what they were below, if those of these are too
abbrev pub RemembersInBelow : List Segment → List (List Segment) → List (List Segment) → Type 0
RemembersInBelow segments old new = (n : ℕ) → All (λ s. s.number < n) segments → AreBelow n old → AreBelow n new

-- Each segment of the current list and of the recorded views is known; the numbers of all segments of the lists were taken; and
-- whatever segment the merge in the making makes is known too.
abbrev pub HasKept : List (List Segment) → Shape → Type 0
HasKept lists = IsRightBeside (ListsKnow lists) (λ n. AreBelow n lists)
