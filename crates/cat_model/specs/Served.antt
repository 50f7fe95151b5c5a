-- What serving an input says and reads. The rules are our own.
use Rattle.std.specs.Prelude.{◌≡◌, ℕ, ◌≤◌, ◌⊎◌, List, [], ◌∷◌, ◌++◌, codes, map, Option, None, Some, IfSome, Result, Ok, Err}
use Rattle.std.specs.List.{AllByRecursion}
use Rattle.std.specs.Fmt.{decimal}
use Rattle.std.specs.Io.KnownBytes.{Appends, Consumes, IsAtEnd}
use Rattle.cat_base.specs.declared.refusal.Refusal.{Refusal}
use Rattle.cat_base.specs.declared.refusal.Refusal.TheVariants.{Line as NoForm, Memory}
use Rattle.cat_model.specs.Text.{IsOneLine, Text}
use Rattle.cat_model.specs.Item.{Schema}
use Rattle.cat_model.specs.Table.{Opened}
use Rattle.cat_model.specs.Limits.{least_factor, greatest_factor, least_minimum, greatest_minimum}
use Rattle.cat_model.specs.Files.{Name, IsFileName, text_of_name}
use Rattle.cat_model.specs.Answer.{Found}
use Rattle.cat_model.specs.Run.{Answer, Reply, Exchange}
use Rattle.cat_model.specs.Lines.{spaced, IsReadable, reply_text, refusal_words, line_text, unreadable_text}
use Rattle.cat_model.specs.Heard.{Json, Heard, Hears}
use Rattle.cat_model.specs.Input.{ended_lines, lines_of, HaveCome}

-- ---- the schema line

-- The line spells a factor, a minimum and the text of a schema. The first two say when segments are merged.
pub record SpellsSchema (line : Text) (factor least : ℕ) (text : Text) : Type 0 where
  pub factor_low : least_factor ≤ factor
  pub factor_high : factor ≤ greatest_factor
  pub least_low : least_minimum ≤ least
  pub least_high : least ≤ greatest_minimum
  pub spelled : line ≡ spaced (codes "SCHEMA" ∷ decimal factor ∷ decimal least ∷ text ∷ [])

-- the line can be read, and has the form of a schema line: the text of its schema is looked at, which takes memory
abbrev pub HasSchemaText : Text → Type 0
HasSchemaText line = IsReadable line × (factor least : ℕ) × (text : Text) × SpellsSchema line factor least text

-- what opening under a schema may answer
abbrev pub Opening : Type 1
Opening = Schema → Result Opened Refusal → Type 0

-- the opening of a service without items, where nothing was committed before
abbrev pub OpensEmpty : Opening
OpensEmpty schema (Ok opened) = opened ≡ record { start = record { schema = schema; records = []; token = 0 }; commit = None }
OpensEmpty schema (Err e) = e ≡ Memory

-- what may come of the schema line: how the service is opened, or why it isn't
pub data Begins (json : Json) (opens : Opening) (line : Text) : Result Opened Refusal → Type 0 where
  opened : (factor least : ℕ) (text : Text) (schema : Schema) (r : Result Opened Refusal) → IsReadable line
      → SpellsSchema line factor least text → json.schema_of text ≡ Ok schema → opens schema r
      → Begins json opens line r
  no_schema : (factor least : ℕ) (text : Text) (e : Refusal) → IsReadable line → SpellsSchema line factor least text
      → json.schema_of text ≡ Err e → Begins json opens line (Err e)
  formless : (IsReadable line → (factor least : ℕ) (text : Text) → SpellsSchema line factor least text → ⊥)
      → Begins json opens line (Err NoForm)

-- ---- the lines behind it

-- a line that was heard, and the reply to it
pub data Outcome : Type 0 where
  unreadable : Outcome
  replied : Exchange → Outcome

-- what was heard of the line
abbrev pub heard : Outcome → Heard
heard Outcome.unreadable = Heard.unreadable
heard (Outcome.replied e) = Heard.a_line e.line

-- the exchange of the run, if it is one
abbrev pub exchange : Outcome → Option Exchange
exchange Outcome.unreadable = None
exchange (Outcome.replied e) = Some e

-- what was said to it
abbrev pub outcome_text : Outcome → Text
outcome_text Outcome.unreadable = unreadable_text
outcome_text (Outcome.replied e) = reply_text e.line.session e.reply

-- The names that are told are those of files, and the source that is told has no line feed: so neither can be taken for a reply.
-- Which files a FILES has to tell is said where files are.
abbrev pub NamesFiles : Reply → Type 0
NamesFiles (Ok (Answer.names texts)) = (names : List Name) × AllByRecursion IsFileName names × (texts ≡ map text_of_name names)
NamesFiles (Ok (Answer.found (Found.source stored))) = IfSome stored IsOneLine
NamesFiles _ = Unit {0}

-- and so it is with what was told to a line
abbrev pub TellsFiles : Outcome → Type 0
TellsFiles told = IfSome (exchange told) (λ e. NamesFiles e.reply)

-- each line was heard so, in order
abbrev pub HeardAll : Json → Schema → List Text → List Outcome → Type 0
HeardAll json schema [] [] = Unit {0}
HeardAll json schema (line ∷ lines) (told ∷ tolds) = Hears json schema line (heard told) × HeardAll json schema lines tolds
HeardAll json schema lines tolds = ⊥

-- The text answers the lines, the first of which is the schema's. Where none has come, nothing is said and nothing was done, as the first
-- argument says.
abbrev pub Answered : Type 0 → (Text → List Text → Text → Type 0) → List Text → Text → Type 0
Answered untouched served [] text = untouched × (text ≡ [])
Answered untouched served (first ∷ lines) text = served first lines text

-- the first line is refused; or memory is wanting before one has come, and nothing was done
abbrev pub Refused : Type 0 → (Text → Refusal → Type 0) → List Text → Refusal → Type 0
Refused untouched refused [] e = untouched × (e ≡ Memory)
Refused untouched refused (first ∷ lines) e = refused first e

-- what is said where the first line is refused
abbrev pub refused_text : Refusal → Text
refused_text e = line_text (codes "NO" ∷ refusal_words e)

-- ---- the whole

-- how serving ends early
pub data Ending : Type 0 where
  schema : Ending
  read : Ending
  write : Ending

-- a front of the text went out
pub record AppendsFront (before after : Option Text) (text : Text) : Type 0 where
  pub front : Text
  pub rest : Text
  pub whole : front ++ rest ≡ text
  pub went : Appends before after front

-- what would have gone out: the text for the first of the lines, or a refusal's
abbrev pub IsDue : (List Text → Text → Type 0) → (List Text → Refusal → Type 0) → List Text → Text → Type 0
IsDue answered refused lines text =
    ((first others : List Text) × (first ++ others ≡ lines) × answered first text)
    ⊎ ((e : Refusal) × refused lines e × (text ≡ refused_text e))

-- What serving does, by how it ends: the reader goes from `input` to `left`, the writer from `before` to `after`. Two relations say which text
-- answers lines, the first of which is the schema's, and which refusals such lines may get.
abbrev pub ServesBy : (List Text → Text → Type 0) → (List Text → Refusal → Type 0) → (input left before after : Option Text)
    → Result (Unit {0}) Ending → Type 0
-- the input is at its end, and all its lines are answered
ServesBy answered refused input left before after (Ok u) =
    (bytes : Text) × Consumes input left bytes × IsAtEnd left × (text : Text) × answered (lines_of bytes) text × Appends before after text
-- the first line is refused, and the refusal is all that is said
ServesBy answered refused input left before after (Err Ending.schema) =
    (bytes : Text) × Consumes input left bytes × (lines : List Text) × HaveCome bytes left lines
    × (e : Refusal) × refused lines e × Appends before after (refused_text e)
-- the lines that had ended are answered
ServesBy answered refused input left before after (Err Ending.read) =
    (bytes : Text) × Consumes input left bytes × (text : Text) × answered (ended_lines bytes) text × Appends before after text
-- a front of the text for the lines that had come went out
ServesBy answered refused input left before after (Err Ending.write) =
    (bytes : Text) × Consumes input left bytes × (lines : List Text) × HaveCome bytes left lines
    × (text : Text) × IsDue answered refused lines text × AppendsFront before after text
