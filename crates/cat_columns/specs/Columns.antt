-- How the lists of a column stand for what each row has.
use Rattle.std.specs.Prelude.{◌≡◌, ◌≢◌, ℕ, zero, suc, ◌+◌, ◌^◌, ◌<◌, ◌≤◌, ℤ, Bool, true, false, ◌&&◌, List, [], ◌∷◌, length, map, Option, Some, None, All, Contains, ⊤}
use Rattle.std.specs.Borrow.{Bor}
use Rattle.std.specs.HashSet.{HashSet, keys}
use Rattle.std.specs.List.{list_any}
use Rattle.std.specs.List.Sorted.{IsStrictlyIncreasing}
use Rattle.cat_base.specs.Texts.{IsTextSet}
use Rattle.cat_model.specs.Text.{Text, same_text}
use Rattle.cat_model.specs.Layout.{pieces, AreEnds, ordinal_in, code_in, keywords_of}
use Rattle.cat_model.specs.Query.{open_or, int_le}
use Rattle.cat_model.specs.Ordinals.{text_at, texts_of, dictionary_of}

-- the number, where it is there
abbrev pub number_at : Bool → ℤ → Option ℤ
number_at true n = Some n
number_at false n = None

-- each number, where it is there
abbrev pub numbers : List Bool → List ℤ → List (Option ℤ)
numbers [] ns = []
numbers (b ∷ bs) [] = []
numbers (b ∷ bs) (n ∷ ns) = number_at b n ∷ numbers bs ns

-- the number lies between the two, both included
abbrev pub is_within : ℤ → ℤ → ℤ → Bool
is_within low high n = int_le low n && int_le n high

-- the number lies between the two, where an absent end is open
abbrev pub is_between : Option ℤ → Option ℤ → ℤ → Bool
is_between low high n = open_or (λ a. int_le a n) low && open_or (int_le n) high

-- fewer than 2^32 rows, each with a value, which counts where the number is present
pub record IsNumbers (present : List Bool) (values : List ℤ) : Type 0 where
  pub few : length present < 2 ^ 32
  pub same : length present ≡ length values

-- the set has the text
abbrev pub has_text : {S : Type 0} → Text → HashSet (Bor Text) S → Bool
has_text text texts = list_any (λ k. same_text text k.now) (keys texts)

-- the text behind the reference, as a list of one text or none
abbrev pub texts_behind : Option (Bor Text) → List Text
texts_behind None = []
texts_behind (Some t) = t.now ∷ []

-- the dictionary has the text, if there is one
abbrev pub DictionaryHas : List Text → Option Text → Type 0
DictionaryHas dictionary None = ⊤
DictionaryHas dictionary (Some text) = Contains dictionary text

-- the text of a code, which is 0 for none and else an ordinal plus 1
abbrev pub text_of_code : List Text → ℕ → Option Text
text_of_code dictionary zero = None
text_of_code dictionary (suc ordinal) = Some (text_at dictionary ordinal)

-- fewer than 2^32 codes, each of no text or of one of the dictionary, which has the rows' texts alone
pub record IsKeywords (dictionary : List Text) (codes : List ℕ) : Type 0 where
  pub few : length codes < 2 ^ 32
  pub within : All (λ code. code ≤ length dictionary) codes
  pub whole : dictionary ≡ dictionary_of (map texts_of (map (text_of_code dictionary) codes))

-- the index behind each row's last text, once the rows stand one behind another, the first from `from` on
abbrev pub row_ends_from : ℕ → List (List Text) → List ℕ
row_ends_from from [] = []
row_ends_from from (row ∷ rows) = (from + length row) ∷ row_ends_from (from + length row) rows

-- fewer than 2^32 rows, whose parts of the ordinals stand one behind another, each in byte order; the dictionary has the
-- rows' labels alone
pub record IsSets (dictionary : List Text) (ends ordinals : List ℕ) : Type 0 where
  pub few : length ends < 2 ^ 32
  pub parts : AreEnds 0 ends (length ordinals)
  pub within : All (λ o. o < length dictionary) ordinals
  pub whole : dictionary ≡ dictionary_of (pieces 0 ends (map (text_at dictionary) ordinals))
  pub sets : All IsTextSet (pieces 0 ends (map (text_at dictionary) ordinals))

-- no more texts than codes, each code of no text or of one of `len`, and each of these texts has a code
pub record AreCodes (len : ℕ) (codes : List ℕ) : Type 0 where
  pub few : len ≤ length codes
  pub within : All (λ code. code ≤ len) codes
  pub used : (ordinal : ℕ) → ordinal < len → Contains codes (ordinal + 1)

-- no more texts than ordinals, each ordinal of one of `len` texts, each of these texts has one, and those of each row rise
pub record AreOrdinals (len : ℕ) (ends ordinals : List ℕ) : Type 0 where
  pub few : len ≤ length ordinals
  pub within : All (λ o. o < len) ordinals
  pub used : (ordinal : ℕ) → ordinal < len → Contains ordinals ordinal
  pub rise : All IsStrictlyIncreasing (pieces 0 ends ordinals)

-- the column is laid out as this dictionary and these codes
abbrev pub IsLaidAsKeywords : List (Option Text) → List Text → List ℕ → Type 0
IsLaidAsKeywords values dictionary codes = (keywords_of values ≡ dictionary) × (map (code_in (keywords_of values)) values ≡ codes)

-- no column is
abbrev pub HasNoKeywords : List Text → List ℕ → Type 0
HasNoKeywords dictionary codes = (values : List (Option Text)) → keywords_of values ≡ dictionary → map (code_in (keywords_of values)) values ≢ codes

-- the column is laid out as this dictionary and these ordinals, cut where the rows' end
abbrev pub IsLaidAsSets : List (List Text) → List Text → List ℕ → List ℕ → Type 0
IsLaidAsSets rows dictionary ends ordinals =
    (dictionary_of rows ≡ dictionary) × (map (map (ordinal_in (dictionary_of rows))) rows ≡ pieces 0 ends ordinals)

-- no column is
abbrev pub HasNoSets : List Text → List ℕ → List ℕ → Type 0
HasNoSets dictionary ends ordinals = (rows : List (List Text)) → All IsTextSet rows → dictionary_of rows ≡ dictionary
    → map (map (ordinal_in (dictionary_of rows))) rows ≢ pieces 0 ends ordinals
