-- Words that stand one behind another.
use Rattle.std.specs.Prelude.{◌≡◌, ℕ, ◌+◌, ◌<◌, ◌≤◌, Bool, true, false, List, length, Option}
use Rattle.std.specs.Borrow.{Bor}
use Rattle.std.specs.Option.{option_map}
use Rattle.cat_model.specs.Text.{Text, text_le}
use Rattle.cat_model.specs.Query.{open_or}
use Rattle.cat_model.specs.Ordinals.{text_at}

-- the words that pass the test are the `count` words from the ordinal `first` on
pub record IsInterval (p : Text → Bool) (words : List Text) (first count : ℕ) : Type 0 where
  pub before : (o : ℕ) → o < first → o < length words → p (text_at words o) ≡ false
  pub inside : (o : ℕ) → first ≤ o → o < first + count → o < length words → p (text_at words o) ≡ true
  pub after : (o : ℕ) → first + count ≤ o → o < length words → p (text_at words o) ≡ false

-- the word doesn't come before the low end, which may be open
abbrev pub is_from : Option (Bor Text) → Text → Bool
is_from low word = open_or (λ a. text_le a word) (option_map (λ a. a.now) low)

-- the word is at most the high end, which may be open
abbrev pub is_up_to : Option (Bor Text) → Text → Bool
is_up_to high word = open_or (text_le word) (option_map (λ a. a.now) high)
