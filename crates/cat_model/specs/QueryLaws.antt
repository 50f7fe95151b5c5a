-- The laws of query texts. Nothing to believe: each is the contract of a public function, and so proved.
use Rattle.std.specs.Prelude.{◌≡◌, ◌↔◌, ◌⊎◌, ℕ, Ok, Err}
use Rattle.cat_model.specs.Text.{Text}
use Rattle.cat_model.specs.Item.{Schema, IsSchema}
use Rattle.cat_model.specs.Query.{Query}
use Rattle.cat_model.specs.Grammar.{Spells}
use Rattle.cat_model.specs.Faults.{Fault}
use Rattle.cat_model.specs.Reader.{read_query}

-- A text is read as a query exactly where it spells it.
abbrev pub QueriesAreRead : Type 0
QueriesAreRead = (schema : Schema) (text : Text) (q : Query) → (read_query schema text ≡ Ok q) ↔ Spells schema text q

-- A text is refused at a place exactly where it has a fault there.
abbrev pub FaultsAreFound : Type 0
FaultsAreFound =
    (schema : Schema) (text : Text) (place : ℕ) → IsSchema schema
    → (read_query schema text ≡ Err place) ↔ Fault schema text place

-- A text spells at most one query.
abbrev pub TextsSpellOneQuery : Type 0
TextsSpellOneQuery =
    (schema : Schema) (text : Text) (one two : Query) → Spells schema text one → Spells schema text two → one ≡ two

-- A text has a fault in at most one place.
abbrev pub FaultsHaveOnePlace : Type 0
FaultsHaveOnePlace =
    (schema : Schema) (text : Text) (one two : ℕ) → IsSchema schema → Fault schema text one → Fault schema text two
    → one ≡ two

-- A text spells a query or has a fault.
abbrev pub TextsAreJudged : Type 0
TextsAreJudged =
    (schema : Schema) (text : Text) → IsSchema schema
    → ((q : Query) × Spells schema text q) ⊎ ((place : ℕ) × Fault schema text place)

-- It doesn't do both.
abbrev pub SpelledTextsHaveNoFault : Type 0
SpelledTextsHaveNoFault =
    (schema : Schema) (text : Text) (q : Query) (place : ℕ) → IsSchema schema → Spells schema text q
    → Fault schema text place → ⊥
