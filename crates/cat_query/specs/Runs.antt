-- Runs of word bytes that are one word.
use Rattle.std.specs.Prelude.{List, [], ◌∷◌, Option, Some, None, Bool}
use Rattle.cat_model.specs.Text.{Text, same_text}
use Rattle.cat_model.specs.Words.{lowered}

-- the only text of the list
abbrev pub only : List Text → Option Text
only [] = None
only (w ∷ []) = Some w
only (w ∷ v ∷ ws) = None

-- the two are one text but for capitals of ASCII
abbrev pub same_lowered : Text → Text → Bool
same_lowered a b = same_text (lowered a) (lowered b)
