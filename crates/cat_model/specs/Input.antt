-- The lines of an input. The rules are our own, and those that most line readers have.
use Rattle.std.specs.Prelude.{List, [], ◌∷◌, ◌++◌, ◌==◌, if◌then◌else◌, Option}
use Rattle.std.specs.Io.BufRead.{strip_last}
use Rattle.std.specs.Io.KnownBytes.{IsAtEnd}
use Rattle.cat_model.specs.Text.{Text, one_or_none}

-- The lines that a line feed ends, where `front` has come of the first one. A carriage return just before the line feed is dropped.
abbrev pub ended_after : Text → Text → List Text
ended_after front [] = []
ended_after front (b ∷ bytes) =
    if b == 10 then strip_last 13 front ∷ ended_after [] bytes else ended_after (front ++ b ∷ []) bytes

-- what comes after the last line feed
abbrev pub rest_after : Text → Text → Text
rest_after front [] = front
rest_after front (b ∷ bytes) = if b == 10 then rest_after [] bytes else rest_after (front ++ b ∷ []) bytes

-- the lines that a line feed ends
abbrev pub ended_lines : Text → List Text
ended_lines bytes = ended_after [] bytes

-- a last line without a line feed counts if it isn't empty; an input of no bytes has one line, which is empty
abbrev pub lines_of : Text → List Text
lines_of [] = [] ∷ []
lines_of (b ∷ bytes) = ended_lines (b ∷ bytes) ++ one_or_none (rest_after [] (b ∷ bytes))

-- The lines that had come, where these bytes were read: those that a line feed ended, and at the end of the input all.
pub data HaveCome (bytes : Text) (left : Option Text) : List Text → Type 0 where
  ended : HaveCome bytes left (ended_lines bytes)
  at_end : IsAtEnd left → HaveCome bytes left (lines_of bytes)
