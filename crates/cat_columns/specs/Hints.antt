-- Where in a list of texts a text can be, by its hash.
use Rattle.std.specs.Prelude.{◌≡◌, ℕ, ◌*◌, ◌/◌, ◌^◌, ◌<◌, ⊤, List, length, slice_index_or}
use Rattle.cat_model.specs.Text.{Text}
use Rattle.cat_model.specs.Ordinals.{text_at}
use Rattle.cat_columns.specs.TextHash.{text_hash}
use Rattle.cat_columns.specs.declared.hints.Hint.{Hint}
use Rattle.cat_columns.specs.declared.hints.Hint.TheVariants.{Empty, One, Crowded}

-- the slot that the hash leads to
abbrev pub slot_of : ℕ → ℕ → ℕ
slot_of hash count = hash / 2 ^ 32 * count / 2 ^ 32

-- the hint of the hash; where there are no hints, nothing is known
abbrev pub hint_of : List Hint → ℕ → Hint
hint_of hints hash = slice_index_or hints (slot_of hash (length hints)) Crowded

-- the hint lets a text stand at this place
abbrev pub Allows : Hint → ℕ → Type 0
Allows Empty place = ⊥
Allows (One only) place = only ≡ place
Allows Crowded place = ⊤

-- the hint of each of the first texts lets it stand where it does
abbrev pub AllowFirst : List Text → ℕ → List Hint → Type 0
AllowFirst texts count hints = (place : ℕ) → place < count → Allows (hint_of hints (text_hash (text_at texts place))) place

-- the hint of each text lets it stand where it does
pub record AreHints (texts : List Text) (hints : List Hint) : Type 0 where
  pub few : length hints < 2 ^ 32
  pub allow : AllowFirst texts (length texts) hints
