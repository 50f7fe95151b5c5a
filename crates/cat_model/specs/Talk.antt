-- The law of held reads over bytes: what a user can check by eye in what was read and what was written. Nothing to believe
-- of the service: the two laws are proved. The rules are our own.
use Rattle.std.specs.Prelude.{◌≡◌, ◌≢◌, ℕ, ◌≤◌, ◌⊎◌, List, [], ◌∷◌, ◌++◌, codes, map, filter_map, Contains, Option, Some, None, Ok}
use Rattle.std.specs.List.{flat_map, AllByRecursion}
use Rattle.std.specs.Fmt.{decimal}
use Rattle.cat_model.specs.Text.{Text, IsOneLine}
use Rattle.cat_model.specs.Item.{Schema, IsSchema, Content, Item}
use Rattle.cat_model.specs.Table.{Start, Opened, CommitText}
use Rattle.cat_model.specs.Limits.{last_number, session_limit}
use Rattle.cat_model.specs.Run.{IsRun}
use Rattle.cat_model.specs.Lines.{Said, SpellsSaid, line_text, unreadable_text}
use Rattle.cat_model.specs.Heard.{Json}
use Rattle.cat_model.specs.Served.{HeardAll, Outcome, TellsFiles, exchange, outcome_text}

-- ---- a talk: the lines that were read, each with the bytes that answer it

-- a line, and its reply
pub record Pair : Type 0 where
  pub line : Text
  pub reply : Text

-- a line that begins a reply: its second word is OK or NO
pub record BeginsReply (line : Text) : Type 0 where
  pub who : Text
  pub rest : Text
  pub one_word : AllByRecursion (λ b. b ≢ 32) who
  pub whole : (line ≡ who ++ (codes " OK " ++ rest)) ⊎ (line ≡ who ++ (codes " NO " ++ rest))

-- a reply: a line that begins one, and then lines that don't, each with its line feed
pub record IsReply (text : Text) : Type 0 where
  pub first : Text
  pub more : List Text
  pub begins : BeginsReply first
  pub goes_on : AllByRecursion (λ line. BeginsReply line → ⊥) more
  pub cut : AllByRecursion IsOneLine (first ∷ more)
  pub whole : text ≡ flat_map (λ line. line ++ 10 ∷ []) (first ∷ more)

-- The lines behind the first are those of the talk; the output is a line for the first one, and then the replies of the talk.
pub record IsTalk (lines : List Text) (output : Text) (talk : List Pair) : Type 0 where
  pub first : Text
  pub opening : Text
  pub one_line : IsOneLine opening
  pub read : lines ≡ first ∷ map (λ p. p.line) talk
  pub replies : AllByRecursion (λ p. IsReply p.reply) talk
  pub written : output ≡ opening ++ 10 ∷ flat_map (λ p. p.reply) talk

-- ---- what stands in a talk

-- a session says the text, and is answered OK and a number
abbrev pub granted : ℕ → Text → ℕ → Pair
granted s text n = record { line = decimal s ++ 32 ∷ text; reply = line_text (decimal s ∷ codes "OK" ∷ decimal n ∷ []) }

-- the text is a write's, with this argument
pub data AsksToWrite (text argument : Text) : Type 0 where
  put : text ≡ codes "PUT " ++ argument → AsksToWrite text argument
  delete : text ≡ codes "DEL " ++ argument → AsksToWrite text argument
  delete_where : text ≡ codes "DELW " ++ argument → AsksToWrite text argument

-- some session's PUT, DEL or DELW of this text was answered OK n
pub record IsWrite (talk : List Pair) (n : ℕ) (text : Text) : Type 0 where
  pub session : ℕ
  pub argument : Text
  pub command : AsksToWrite text argument
  pub stands : Contains talk (granted session text n)

-- up to t, the writes of one number have one text
abbrev pub WritesAgree : ℕ → List Pair → List Pair → Type 0
WritesAgree t one two = (n : ℕ) (text₁ text₂ : Text) → n ≤ t → IsWrite one n text₁ → IsWrite two n text₂ → text₁ ≡ text₂

-- the session was answered t to an OPEN, and after that OK to no CLOSE t
pub record ShowsHold (past : List Pair) (s t : ℕ) : Type 0 where
  pub before : List Pair
  pub since : List Pair
  pub text : Text
  pub command : (text ≡ codes "OPEN") ⊎ (text ≡ codes "OPEN " ++ decimal t)
  pub split : past ≡ before ++ granted s text t ∷ since
  pub kept : Contains since (granted s (codes "CLOSE " ++ decimal t) t) → ⊥

-- what is said is a read under t: a FIND, a FACETS or a GET
abbrev pub ReadsUnder : ℕ → Said → Type 0
ReadsUnder t (Said.find u n sort mark query) = u ≡ t
ReadsUnder t (Said.facets u dim n query) = u ≡ t
ReadsUnder t (Said.get u id) = u ≡ t
ReadsUnder t _ = ⊥

-- the text is a read under t
pub record IsRead (t : ℕ) (text : Text) : Type 0 where
  pub said : Said
  pub spells : SpellsSaid text said
  pub under : ReadsUnder t said

-- the refusal of a number
abbrev pub refusal_text : ℕ → ℕ → Text
refusal_text s n = line_text (decimal s ∷ codes "NO" ∷ decimal n ∷ [])

-- the line is too long or no text, a device failed, a file is damaged, memory was wanting
abbrev pub excepted_replies : ℕ → List Text
excepted_replies s = unreadable_text ∷ refusal_text s 30 ∷ refusal_text s 31 ∷ refusal_text s 40 ∷ []

-- a session that holds t says the text, and is answered so, which is no stop
pub record HeldAsk (talk : List Pair) (t s : ℕ) (text reply : Text) : Type 0 where
  pub small : s ≤ session_limit
  pub past : List Pair
  pub later : List Pair
  pub split : talk ≡ past ++ record { line = decimal s ++ 32 ∷ text; reply = reply } ∷ later
  pub held : ShowsHold past s t
  pub undisturbed : AllByRecursion (λ stop. reply ≢ stop) (excepted_replies s)

-- the same lines, each behind its session
pub record AreAlike (s₁ s₂ : ℕ) (reply₁ reply₂ : Text) : Type 0 where
  pub lines : List Text
  pub cut : AllByRecursion IsOneLine lines
  pub one : reply₁ ≡ flat_map (λ line. line_text (decimal s₁ ∷ line ∷ [])) lines
  pub two : reply₂ ≡ flat_map (λ line. line_text (decimal s₂ ∷ line ∷ [])) lines

-- ---- what is asked of texts of items, and of what a service opens with

-- no text of the content has a line feed
abbrev pub HasOneLines : Content → Type 0
HasOneLines (Content.words ws) = Unit {0}
HasOneLines (Content.keyword None) = Unit {0}
HasOneLines (Content.keyword (Some k)) = IsOneLine k
HasOneLines (Content.number z) = Unit {0}
HasOneLines (Content.labels ls) = AllByRecursion IsOneLine ls

-- no text that is shown of the item has a line feed
pub record IsShownInLines (i : Item) : Type 0 where
  pub id : IsOneLine i.id
  pub source : IsOneLine i.source
  pub fields : AllByRecursion (λ p. HasOneLines p.content) i.fields

-- an item that is read from a line is shown in lines
abbrev pub ReadsLines : Json → Type 0
ReadsLines json =
    (schema : Schema) (text : Text) (i : Item) → IsSchema schema → IsOneLine text → json.item_of schema text ≡ Ok i
    → IsShownInLines i

-- the schema is one, the token is a number of a write, and the records are shown in lines
pub record IsShownStart (start : Start) : Type 0 where
  pub schema : IsSchema start.schema
  pub token : start.token ≤ last_number
  pub records : AllByRecursion (λ r. IsShownInLines r.item) start.records

-- the text of the commit has no line feed, where there is one
abbrev pub HasShownText : Option CommitText → Type 0
HasShownText None = Unit {0}
HasShownText (Some c) = IsOneLine c.text

-- what is shown of what was opened is shown in lines: the records, and the text of the commit
pub record IsShownOpened (from : Opened) : Type 0 where
  pub start : IsShownStart from.start
  pub commit : HasShownText from.commit

-- ---- the laws

-- The text answers the lines behind the first one, of a service that was opened so: by a run that fits them, with the replies to unreadable
-- lines between. It is what `IsServedIn` says of a text where all that is told fits, as over directories that tell of their files.
pub record AreAnswered (json : Json) (from : Opened) (lines : List Text) (text : Text) : Type 0 where
  pub tolds : List Outcome
  pub heard_all : HeardAll json from.start.schema lines tolds
  pub is_run : IsRun from (filter_map exchange tolds)
  pub files : AllByRecursion TellsFiles tolds
  pub whole : text ≡ line_text (codes "OK" ∷ decimal from.start.token ∷ []) ++ flat_map outcome_text tolds

-- What answers lines without line feeds, as those of an input are, is a talk, and one only, whatever was opened.
abbrev pub AnswersAreTalks : Json → Type 0
AnswersAreTalks json =
    (from : Opened) (first output : Text) (lines : List Text) → IsShownOpened from → AllByRecursion IsOneLine lines
    → AreAnswered json from lines output
    → (talk : List Pair) × IsTalk (first ∷ lines) output talk × ((other : List Pair) → IsTalk (first ∷ lines) output other → other ≡ talk)

-- For every two talks of services that were opened with one start (their opened commits may differ), and whose writes up to t have the same
-- texts: a read under t, be it a FIND, a FACETS or a GET, has the same reply in both, for sessions that hold t.
abbrev pub TalksAgree : Json → Type 0
TalksAgree json =
    (from₁ from₂ : Opened) (first₁ first₂ output₁ output₂ : Text) (lines₁ lines₂ : List Text) → IsShownOpened from₁ → IsShownOpened from₂
    → from₁.start ≡ from₂.start
    → AllByRecursion IsOneLine lines₁ → AreAnswered json from₁ lines₁ output₁
    → AllByRecursion IsOneLine lines₂ → AreAnswered json from₂ lines₂ output₂
    → (talk₁ talk₂ : List Pair) → IsTalk (first₁ ∷ lines₁) output₁ talk₁ → IsTalk (first₂ ∷ lines₂) output₂ talk₂
    → (t s₁ s₂ : ℕ) (text reply₁ reply₂ : Text)
    → WritesAgree t talk₁ talk₂
    → IsRead t text
    → HeldAsk talk₁ t s₁ text reply₁
    → HeldAsk talk₂ t s₂ text reply₂
    → AreAlike s₁ s₂ reply₁ reply₂

-- so it is where items are shown in lines
abbrev pub AnswersOfAnyStartAreTalks : Type 0
AnswersOfAnyStartAreTalks = (json : Json) → ReadsLines json → AnswersAreTalks json

-- and so
abbrev pub TalksOfOneStartAgree : Type 0
TalksOfOneStartAgree = (json : Json) → ReadsLines json → TalksAgree json
