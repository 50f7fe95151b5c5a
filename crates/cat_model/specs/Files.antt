-- The names of the files, and the one text of each (IndexFileNames). The forms are our own.
use Rattle.std.specs.Prelude.{◌≡◌, ℕ, ◌<◌, ◌^◌, ◌∷◌, ◌++◌, codes}
use Rattle.std.specs.Fmt.{decimal}
use Rattle.cat_model.specs.Text.{Text}

-- what a file holds: a segment, the sources of its rows, its live rows as a commit wrote them, a commit
pub data Name : Type 0 where
  segment : (number : ℕ) → Name
  source : (number : ℕ) → Name
  live : (number generation : ℕ) → Name
  commit : (generation : ℕ) → Name

-- `_<n>.seg`, `_<n>.sto`, `_<n>_<d>.liv` and `segments_<g>`
abbrev pub text_of_name : Name → Text
text_of_name (Name.segment n) = 95 ∷ (decimal n ++ codes ".seg")
text_of_name (Name.source n) = 95 ∷ (decimal n ++ codes ".sto")
text_of_name (Name.live n d) = 95 ∷ (decimal n ++ 95 ∷ (decimal d ++ codes ".liv"))
text_of_name (Name.commit g) = codes "segments_" ++ decimal g

-- a number that stands in the name of a file
abbrev pub IsFileNumber : ℕ → Type 0
IsFileNumber n = (0 < n) × (n < 2 ^ 63)

-- the numbers are such
abbrev pub IsFileName : Name → Type 0
IsFileName (Name.segment n) = IsFileNumber n
IsFileName (Name.source n) = IsFileNumber n
IsFileName (Name.live n d) = IsFileNumber n × IsFileNumber d
IsFileName (Name.commit g) = IsFileNumber g

-- the text is the name's
pub record SpellsName (text : Text) (name : Name) : Type 0 where
  pub form : IsFileName name
  pub spelled : text ≡ text_of_name name
