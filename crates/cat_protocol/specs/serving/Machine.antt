-- A machine that a first line opens and that answers the lines behind it, one after another.
use Rattle.std.specs.Prelude.{◌≡◌, ℕ, Bool, true, false, Option, None, Some, Result, Ok, List, [], ◌∷◌, ◌++◌, codes, map, length, nat_lt, if◌then◌else◌}
use Rattle.std.specs.List.{flat_map}
use Rattle.std.specs.Fmt.{decimal}
use Rattle.cat_model.specs.Limits.{line_limit}
use Rattle.cat_model.specs.Text.{Text}
use Rattle.cat_model.specs.Lines.{line_text}
use Rattle.cat_model.specs.Served.{Outcome, outcome_text}
use Rattle.cat_protocol.specs.declared.serving.machine.Stage.{Stage}
use Rattle.cat_protocol.specs.declared.serving.machine.Stage.TheVariants.{Waiting, Refused, Open}

-- the line, unless it is longer than a line may be
abbrev pub short_line : Text → Option Text
short_line line = if nat_lt line_limit (length line) then None else Some line

-- the first line opened the machine
abbrev pub stands_open : {M S : Type 0} → Stage M S → Bool
stands_open (Waiting seed) = false
stands_open (Refused back) = false
stands_open (Open machine) = true

-- from old these lines may be told these replies, one step after another, and new be left
abbrev pub Steps : {M : Type 0} → (M → Option Text → Outcome → M → Type 0) → M → List (Option Text) → List Outcome → M
    → Type 0
Steps step old [] [] new = new ≡ old
Steps {M = M} step old (line ∷ lines) (told ∷ outcomes) new =
    (mid : M) × step old line told mid × Steps step mid lines outcomes new
Steps step old [] (told ∷ outcomes) new = ⊥
Steps step old (line ∷ lines) [] new = ⊥

-- what is said where a machine is opened at a token
abbrev pub opened_text : ℕ → Text
opened_text token = line_text (codes "OK" ∷ decimal token ∷ [])

-- The text answers the first line, which opened the machine at a token, and the lines behind it, one step each.
pub record IsAnsweredByMachine {M E : Type 0} (opens : Option Text → Result M E → Type 0)
    (step : M → Option Text → Outcome → M → Type 0) (token : M → ℕ)
    (first : Text) (lines : List Text) (text : Text) : Type 0 where
  pub opened : M
  pub begins : opens (short_line first) (Ok opened)
  pub left : M
  pub outcomes : List Outcome
  pub steps : Steps step opened (map short_line lines) outcomes left
  pub whole : text ≡ opened_text (token opened) ++ flat_map outcome_text outcomes
