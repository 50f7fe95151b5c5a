-- The laws of the replies to OPEN and CLOSE.
use Rattle.std.specs.Prelude.{◌≡◌, ℕ, ◌&&◌, ◌==◌, not, true, false, [], ◌∷◌, ◌++◌, filter, cond, Err}
use Rattle.std.specs.List.{list_any}
use Rattle.cat_model.specs.cat_base.declared.refusal.Refusal.TheVariants.{Gone, NotHeld}
use Rattle.cat_model.specs.Run.{Command, greatest}
use Rattle.cat_model.specs.State.{has_hold}
use Rattle.cat_ledger_laws.specs.model.Plans.{MergePolicy}
use Rattle.cat_ledger_laws.specs.shape.Shapes.{Shape}
use Rattle.cat_ledger_laws.specs.shape.Steps.{tokens_of}
use Rattle.cat_ledger_laws.specs.shape.Ties.{ToldFiles, TouchesNothing}
use Rattle.cat_ledger_laws.specs.lines.RunLaws.{AnswersCarried}
use Rattle.cat_ledger_laws.specs.lines.LineLaws.{line_of, tells, NothingChanges}

-- with a hold of the session, where it has none of the token
abbrev pub holding : ℕ → ℕ → Shape → Shape
holding session t s =
    record s { holds = cond (has_hold s.holds session t) s.holds (s.holds ++ record { session = session; token = t } ∷ []) }

-- without the hold
abbrev pub letting_go : ℕ → ℕ → Shape → Shape
letting_go session t s = record s { holds = filter (λ h. not ((h.session == session) && (h.token == t))) s.holds }

-- an OPEN holds the newest view, and there is one,
abbrev pub OpensNewestAnswer : Type 0
OpensNewestAnswer = (policy : MergePolicy) (told told' : ToldFiles) (s new : Shape) (session t : ℕ) → t ≡ greatest (tokens_of s.views)
    → new ≡ holding session t s → TouchesNothing told told' → AnswersCarried policy told s (line_of session Command.open_newest) (tells t) told' new

-- or that of a token, where one is recorded,
abbrev pub OpensAnswer : Type 0
OpensAnswer = (policy : MergePolicy) (told told' : ToldFiles) (s new : Shape) (session t : ℕ) → list_any (λ v. v.token == t) s.views ≡ true
    → new ≡ holding session t s → TouchesNothing told told' → AnswersCarried policy told s (line_of session (Command.open_at t)) (tells t) told' new

-- and is refused where none is;
abbrev pub GoneOpensAnswer : Type 0
GoneOpensAnswer = (policy : MergePolicy) (told told' : ToldFiles) (s new : Shape) (session t : ℕ) → list_any (λ v. v.token == t) s.views ≡ false
    → NothingChanges told s told' new → AnswersCarried policy told s (line_of session (Command.open_at t)) (Err Gone) told' new

-- a CLOSE lets go of a token that the session holds,
abbrev pub ClosesAnswer : Type 0
ClosesAnswer = (policy : MergePolicy) (told told' : ToldFiles) (s new : Shape) (session t : ℕ) → has_hold s.holds session t ≡ true
    → new ≡ letting_go session t s → TouchesNothing told told' → AnswersCarried policy told s (line_of session (Command.close t)) (tells t) told' new

-- and is refused where it doesn't.
abbrev pub UnheldClosesAnswer : Type 0
UnheldClosesAnswer = (policy : MergePolicy) (told told' : ToldFiles) (s new : Shape) (session t : ℕ) → has_hold s.holds session t ≡ false
    → NothingChanges told s told' new → AnswersCarried policy told s (line_of session (Command.close t)) (Err NotHeld) told' new
