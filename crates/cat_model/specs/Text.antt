-- Texts, as the bytes of their UTF-8. They compare by bytes, as Lucene's terms do (BytesRef.compareTo).
use Rattle.std.specs.Prelude.{◌≢◌, ℕ, Bool, List, [], ◌∷◌, length, take, bytes_eq}
use Rattle.std.specs.declared.cmp.Ordering.{Ordering}
use Rattle.std.specs.Ordering.{nat_cmp, is_le}
use Rattle.std.specs.Cmp.Lexicographic.{slice_cmp}
use Rattle.std.specs.List.{AllByRecursion}

-- a text, byte by byte
abbrev pub Text : Type 0
Text = List ℕ

-- the texts have the same bytes
abbrev pub same_text : Text → Text → Bool
same_text = bytes_eq

-- which of two texts comes first by its bytes
abbrev pub text_cmp : Text → Text → Ordering
text_cmp = slice_cmp nat_cmp

-- the first comes before the second, or they are the same
abbrev pub text_le : Text → Text → Bool
text_le a b = is_le (text_cmp a b)

-- the text begins with the prefix
abbrev pub has_prefix : Text → Text → Bool
has_prefix prefix text = bytes_eq prefix (take (length prefix) text)

-- a text without a line feed
abbrev pub IsOneLine : Text → Type 0
IsOneLine text = AllByRecursion (λ b. b ≢ 10) text

-- the text, and nothing where it is empty
abbrev pub one_or_none : Text → List Text
one_or_none [] = []
one_or_none (b ∷ text) = (b ∷ text) ∷ []
