-- Held reads agree: what is said of any two calls of `serve`, by the bytes that they read and wrote alone.
use Rattle.std.specs.Prelude.{◌≡◌, ℕ, ◌⊎◌, List, [], ◌∷◌, ◌++◌, codes, length, Some, Ok, Err}
use Rattle.std.specs.Fmt.{decimal}
use Rattle.cat_model.specs.Text.{Text}
use Rattle.cat_model.specs.Lines.{Said, line_text}
use Rattle.cat_model.specs.Input.{lines_of, ended_lines}
use Rattle.cat_model.specs.Served.{Ending}
use Rattle.cat_model.specs.Talk.{AreAlike, HeldAsk, IsRead, IsTalk, Pair, WritesAgree}
use Rattle.cat_model.specs.Heard.{Json}
use Rattle.cat_model.specs.Told.{DirectoryKind, TellsAlways}
use Rattle.cat_model.specs.Opens.{BeginsFrom}
use Rattle.cat_model.specs.Serving.{IsServedIn, ServesIn}

-- ---- a call

-- What a call of `serve` read and wrote that answered these lines: all, at the end of the input; or those that had ended, where a read
-- failed. This is what `serve` ensures, with bytes that are known.
pub data HasAnswered (json : Json) {D : Type 0} (kind : DirectoryKind D) (device left : D) (input output : Text) : List Text → Type 0 where
  to_the_end : ServesIn json kind device left (Some input) (Some []) (Some []) (Some output) (Ok tt)
      → HasAnswered json kind device left input output (lines_of input)
  to_a_fault :
      (rest : Text) → ServesIn json kind device left (Some (input ++ rest)) (Some rest) (Some []) (Some output) (Err Ending.read)
      → HasAnswered json kind device left input output (ended_lines input)

-- A call that answered these lines so: what it wrote to those behind the first is told of a run from where it was opened.
pub record IsCall (json : Json) {D : Type 0} (kind : DirectoryKind D) (device left : D) (first : Text) (lines : List Text) (output : Text) : Type 0 where
  pub input : Text
  pub answered : HasAnswered json kind device left input output (first ∷ lines)
  pub served : IsServedIn json kind device left first lines output

-- Each call of `serve` that answered a first line is one, opened from what the device tells of its files.
abbrev pub CallsAreOpened : Json → {D : Type 0} → DirectoryKind D → Type 0
CallsAreOpened json {D} kind =
    (device left : D) (input output first : Text) (lines : List Text)
    → HasAnswered json kind device left input output (first ∷ lines)
    → (call : IsCall json kind device left first lines output) × BeginsFrom json (kind.bytes device) first (Ok call.served.from)

-- ---- what two replies have in common

-- the same bytes, each behind its session
pub record SayTheSame (s₁ s₂ : ℕ) (reply₁ reply₂ : Text) : Type 0 where
  pub rest : Text
  pub one : reply₁ ≡ decimal s₁ ++ rest
  pub two : reply₂ ≡ decimal s₂ ++ rest

-- OK and a text each, of one length
pub record SayAsLong (s₁ s₂ : ℕ) (reply₁ reply₂ : Text) : Type 0 where
  pub text₁ : Text
  pub text₂ : Text
  pub size : length text₁ ≡ length text₂
  pub one : reply₁ ≡ line_text (decimal s₁ ∷ codes "OK" ∷ text₁ ∷ [])
  pub two : reply₂ ≡ line_text (decimal s₂ ∷ codes "OK" ∷ text₂ ∷ [])

-- The replies to a FIND or to a FACETS are the same lines, each behind its session. Those to a GET are the same where both devices tell of
-- their files; else a stored item may be another text of its length.
abbrev pub Agree : Type 0 → Type 0 → Said → ℕ → ℕ → Text → Text → Type 0
Agree tells₁ tells₂ (Said.get t id) s₁ s₂ reply₁ reply₂ =
    (tells₁ → tells₂ → SayTheSame s₁ s₂ reply₁ reply₂) × (SayTheSame s₁ s₂ reply₁ reply₂ ⊎ SayAsLong s₁ s₂ reply₁ reply₂)
Agree tells₁ tells₂ said s₁ s₂ reply₁ reply₂ = AreAlike s₁ s₂ reply₁ reply₂

-- ---- the laws

-- For every two calls, over devices of any two kinds, that were opened with one schema, one table and one token, and each talk of what they
-- read and wrote: where the writes that were answered a number up to t have the same text in both, a read under t, be it a FIND, a FACETS
-- or a GET, has the same reply in both, for sessions that hold t.
abbrev pub HeldReadsAgreeInCalls : Json → {D E : Type 0} → DirectoryKind D → DirectoryKind E → Type 0
HeldReadsAgreeInCalls json {D} {E} kind₁ kind₂ =
    (device₁ left₁ : D) (device₂ left₂ : E) (first₁ first₂ : Text) (lines₁ lines₂ : List Text) (output₁ output₂ : Text)
    → (one : IsCall json kind₁ device₁ left₁ first₁ lines₁ output₁)
    → (two : IsCall json kind₂ device₂ left₂ first₂ lines₂ output₂)
    → one.served.from.start ≡ two.served.from.start
    → (talk₁ talk₂ : List Pair) → IsTalk (first₁ ∷ lines₁) output₁ talk₁ → IsTalk (first₂ ∷ lines₂) output₂ talk₂
    → (t s₁ s₂ : ℕ) (text reply₁ reply₂ : Text)
    → WritesAgree t talk₁ talk₂
    → (read : IsRead t text)
    → HeldAsk talk₁ t s₁ text reply₁
    → HeldAsk talk₂ t s₂ text reply₂
    → Agree (TellsAlways kind₁) (TellsAlways kind₂) read.said s₁ s₂ reply₁ reply₂
