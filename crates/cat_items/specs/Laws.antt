-- The laws over what texts are read as, each the contract of a public function.
use Rattle.std.specs.Prelude.{◌≡◌, ℕ, Ok}
use Rattle.cat_model.specs.Text.{Text}
use Rattle.cat_model.specs.Item.{Schema, IsSchema}
use Rattle.cat_model.specs.Heard.{Heard, Hears}
use Rattle.cat_model.specs.Served.{SpellsSchema}
use Rattle.cat_model.specs.Laws.{AreHeardOneWay}
use Rattle.cat_model.specs.Talk.{AnswersAreTalks, TalksAgree}
use Rattle.cat_items.specs.Reading.{schema_of, json}

-- Each schema that is read from a text keeps the rules for schemas.
abbrev pub TextsOfSchemasKeepTheRules : Type 0
TextsOfSchemasKeepTheRules = (text : Text) (schema : Schema) → schema_of text ≡ Ok schema → IsSchema schema

-- Under a schema that is read from a text, what is heard of a line is one thing.
abbrev pub EveryLineIsHeardOneWay : Type 0
EveryLineIsHeardOneWay =
    (text : Text) (schema : Schema) (bytes : Text) (one two : Heard) → schema_of text ≡ Ok schema
    → Hears json schema bytes one → Hears json schema bytes two → one ≡ two

-- Whatever two directories tell, a service that a first line opens over each has one schema, and hears each line behind it in one way. If
-- neither has a file, both services are opened in one way.
abbrev pub EveryInputIsHeardOneWay : Type 0
EveryInputIsHeardOneWay = AreHeardOneWay json

-- ---- over bytes

-- The two lines spell texts that are read as one schema. Their factors and minima may differ.
abbrev pub HaveOneSchema : Text → Text → Type 0
HaveOneSchema first₁ first₂ =
    (factor₁ least₁ factor₂ least₂ : ℕ) (text₁ text₂ : Text)
    → SpellsSchema first₁ factor₁ least₁ text₁ → SpellsSchema first₂ factor₂ least₂ text₂ → schema_of text₁ ≡ schema_of text₂

-- What answers the lines of an input is one talk, whatever was opened: there is one way to cut it into a reply for each line.
abbrev pub EveryAnswerIsOneTalk : Type 0
EveryAnswerIsOneTalk = AnswersAreTalks json

-- For two inputs to services that begin with one start, and whatever answers them: where the writes that were answered a number up to t have
-- the same text in both, a read under t has the same reply in both, for sessions that hold t.
abbrev pub HeldReadsAgreeInBytes : Type 0
HeldReadsAgreeInBytes = TalksAgree json
