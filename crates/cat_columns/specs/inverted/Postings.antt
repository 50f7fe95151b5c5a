-- Words with the rows that each is in: how a list of words and one list of rows, cut into a part for each word, stand for
-- the texts of each row.
use Rattle.std.specs.Prelude.{◌≡◌, ◌≢◌, ℕ, zero, suc, ◌<◌, ◌^◌, Bool, List, [], ◌∷◌, length, map, filter, All, ◌==◌}
use Rattle.std.specs.List.{list_any, range_with_len, zip}
use Rattle.cat_base.specs.Texts.{IsTextSet}
use Rattle.cat_model.specs.Text.{Text}
use Rattle.cat_model.specs.Layout.{pieces, AreEnds, word_postings_of, paired_postings}

-- where the piece of an ordinal begins: at the end before it, the first piece at `from`
abbrev pub start_of : ℕ → List ℕ → ℕ → ℕ
start_of from ends zero = from
start_of from [] (suc ordinal) = from
start_of from (e ∷ es) (suc ordinal) = start_of e es ordinal

-- whether the row is among the rows
abbrev pub is_among : List ℕ → ℕ → Bool
is_among rows row = list_any (λ r. r == row) rows

-- rows below `len`, each once, rising: the list is what its own members leave of all rows
abbrev pub IsPostings : ℕ → List ℕ → Type 0
IsPostings len rows = rows ≡ filter (is_among rows) (range_with_len 0 len)

-- the postings of a word that some row has
abbrev pub IsPart : ℕ → List ℕ → Type 0
IsPart len rows = (0 < length rows) × IsPostings len rows

-- the words whose postings have the row
abbrev pub words_at : List Text → List (List ℕ) → ℕ → List Text
words_at words postings row = map (λ e. e.0) (filter (λ e. is_among e.1 row) (zip words postings))

-- the words of each of the rows
abbrev pub words_of_rows : ℕ → List Text → List (List ℕ) → List (List Text)
words_of_rows len words postings = map (words_at words postings) (range_with_len 0 len)

-- words in byte order, each with its piece of `rows` as its postings
pub record IsTerms (len : ℕ) (words : List Text) (ends rows : List ℕ) : Type 0 where
  pub few : len < 2 ^ 32
  pub fits : length rows < 2 ^ 32
  pub sorted : IsTextSet words
  pub paired : length ends ≡ length words
  pub ended : AreEnds 0 ends (length rows)
  pub posted : All (IsPart len) (pieces 0 ends rows)

-- so many rows have the words, each with its piece as its postings
abbrev pub HaveTerms : ℕ → List Text → List (List ℕ) → List (List Text) → Type 0
HaveTerms len words parts texts = (length texts ≡ len) × (word_postings_of texts ≡ paired_postings words parts)

-- no rows have
abbrev pub HasNoTerms : ℕ → List Text → List (List ℕ) → Type 0
HasNoTerms len words parts =
    (texts : List (List Text)) → length texts ≡ len → All IsTextSet texts → word_postings_of texts ≢ paired_postings words parts
