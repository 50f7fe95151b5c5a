-- The words of a text: its longest runs of word characters, with ASCII letters lowered. The rule is our own, in the manner
-- of Lucene's SimpleAnalyzer, which takes runs of letters and lowers them. Here digits count too, and so does every
-- character past ASCII, a letter or not, and these stay as they are: `ÉCLAIR` has the one word `Éclair`.
use Rattle.std.specs.Prelude.{◌≡◌, ◌⊎◌, ◌<◌, ℕ, List, [], ◌∷◌, ◌++◌, map, filter, length, Bool, true, false, not, ◌||◌, nat_le, nat_lt}
use Rattle.std.specs.List.{slice_split, AllByRecursion}
use Rattle.std.specs.Char.{is_ascii_alphanumeric, to_ascii_lowercase}
use Rattle.cat_base.specs.Texts.{sorted_set}
use Rattle.cat_model.specs.Text.{Text}

-- ASCII letters and digits, and each byte of a character past ASCII
abbrev pub is_word_byte : ℕ → Bool
is_word_byte b = is_ascii_alphanumeric b || nat_le 128 b

-- ASCII capitals become small letters, and other bytes stay
abbrev pub lowered : Text → Text
lowered t = map to_ascii_lowercase t

-- the longest runs of word bytes, in order
abbrev pub runs : Text → List Text
runs text = filter (λ s. nat_lt 0 (length s)) (slice_split (λ b. not (is_word_byte b)) text)

-- each word once, in byte order
abbrev pub words : Text → List Text
words text = sorted_set (map lowered (runs text))

-- ---- the longest runs, without saying how they are found

-- the text has a byte
abbrev pub is_some_text : Text → Bool
is_some_text s = nat_lt 0 (length s)

-- nothing stands before, or something whose last byte is no word byte
abbrev pub IsCutBefore : Text → Type 0
IsCutBefore before = (before ≡ []) ⊎ ((front : Text) × (b : ℕ) × (before ≡ front ++ b ∷ []) × (is_word_byte b ≡ false))

-- nothing stands behind, or something whose first byte is no word byte
abbrev pub IsCutAfter : Text → Type 0
IsCutAfter after = (after ≡ []) ⊎ ((b : ℕ) × (rest : Text) × (after ≡ b ∷ rest) × (is_word_byte b ≡ false))

-- one or more word bytes in a row somewhere in the text, which a longer row doesn't have
pub record IsRunOf (text run : Text) : Type 0 where
  pub before : Text
  pub after : Text
  pub whole : text ≡ before ++ (run ++ after)
  pub some : 0 < length run
  pub of_words : AllByRecursion (λ b. is_word_byte b ≡ true) run
  pub starts : IsCutBefore before
  pub ends : IsCutAfter after
