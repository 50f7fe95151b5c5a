-- What is said to lines, beside the run that fits them: the law of held reads over what a call of `serve` is promised to write.
use Rattle.std.specs.Prelude.{◌≡◌, ℕ, ◌≤◌, List, [], ◌∷◌, ◌++◌, codes, filter_map}
use Rattle.std.specs.List.{flat_map, AllByRecursion}
use Rattle.std.specs.Fmt.{decimal}
use Rattle.cat_model.specs.Text.{Text, IsOneLine}
use Rattle.cat_model.specs.Serving.{AreLike}
use Rattle.cat_model.specs.Calls.{Agree}
use Rattle.cat_model.specs.Item.{IsSchema, Item, Record}
use Rattle.cat_model.specs.Table.{Opened, table}
use Rattle.cat_model.specs.Limits.{last_number}
use Rattle.cat_model.specs.Lines.{line_text}
use Rattle.cat_model.specs.Run.{IsRun, writes}
use Rattle.cat_model.specs.Heard.{Json}
use Rattle.cat_model.specs.Served.{HeardAll, Outcome, exchange, outcome_text}
use Rattle.cat_model.specs.Talk.{HasOneLines, HeldAsk, IsRead, IsTalk, Pair, ReadsLines, WritesAgree}

-- no text of the item that a page or counts show has a line feed; its source may have some
pub record PartShown (i : Item) : Type 0 where
  pub id : IsOneLine i.id
  pub fields : AllByRecursion (λ p. HasOneLines p.content) i.fields

abbrev pub PartRecord : Record → Type 0
PartRecord r = PartShown r.item

-- the text answers the lines behind the first one, from where the service was opened
pub record IsSaid (json : Json) (tells : Type 0) (from : Opened) (lines : List Text) (text : Text) : Type 0 where
  pub schema : IsSchema from.start.schema
  pub token : from.start.token ≤ last_number
  pub records : AllByRecursion PartRecord from.start.records
  pub one_lines : AllByRecursion IsOneLine lines
  pub tolds : List Outcome
  pub heard_all : HeardAll json from.start.schema lines tolds
  pub fitting : List Outcome
  pub is_run : IsRun from (filter_map exchange fitting)
  pub alike : AreLike tolds fitting
  pub same : tells → tolds ≡ fitting
  pub whole : text ≡ line_text (codes "OK" ∷ decimal from.start.token ∷ []) ++ flat_map outcome_text tolds

-- ---- the law

-- Whatever two texts answer, from one start: where the writes that were answered a number up to t have the same text in both, a read under
-- t has the same reply in both, for sessions that hold t.
abbrev pub ReadsAgreeSo : Type 0 → Type 0 → Type 0
ReadsAgreeSo tells₁ tells₂ =
    (json : Json) (from₁ from₂ : Opened) (first₁ first₂ : Text) (lines₁ lines₂ : List Text) (text₁ text₂ : Text)
    → ReadsLines json
    → IsSaid json tells₁ from₁ lines₁ text₁ → IsSaid json tells₂ from₂ lines₂ text₂
    → from₁.start ≡ from₂.start
    → (talk₁ talk₂ : List Pair) → IsTalk (first₁ ∷ lines₁) text₁ talk₁ → IsTalk (first₂ ∷ lines₂) text₂ talk₂
    → (t s₁ s₂ : ℕ) (text reply₁ reply₂ : Text)
    → WritesAgree t talk₁ talk₂
    → (read : IsRead t text)
    → HeldAsk talk₁ t s₁ text reply₁
    → HeldAsk talk₂ t s₂ text reply₂
    → Agree tells₁ tells₂ read.said s₁ s₂ reply₁ reply₂

-- The same for a token at which both have one table, whatever they were opened with.
abbrev pub ReadsAgreeWhere : Type 0 → Type 0 → Type 0
ReadsAgreeWhere tells₁ tells₂ =
    (json : Json) (from₁ from₂ : Opened) (first₁ first₂ : Text) (lines₁ lines₂ : List Text) (text₁ text₂ : Text)
    → ReadsLines json
    → (one : IsSaid json tells₁ from₁ lines₁ text₁) (two : IsSaid json tells₂ from₂ lines₂ text₂)
    → from₁.start.schema ≡ from₂.start.schema
    → (talk₁ talk₂ : List Pair) → IsTalk (first₁ ∷ lines₁) text₁ talk₁ → IsTalk (first₂ ∷ lines₂) text₂ talk₂
    → (t s₁ s₂ : ℕ) (text reply₁ reply₂ : Text)
    → table from₁.start (writes (filter_map exchange one.fitting)) t ≡ table from₂.start (writes (filter_map exchange two.fitting)) t
    → (read : IsRead t text)
    → HeldAsk talk₁ t s₁ text reply₁
    → HeldAsk talk₂ t s₂ text reply₂
    → Agree tells₁ tells₂ read.said s₁ s₂ reply₁ reply₂
