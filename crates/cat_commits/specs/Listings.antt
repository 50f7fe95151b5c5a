-- The segments of a commit as their bytes lie in its file, 16 for each.
use Rattle.std.specs.Prelude.{◌≢◌, ℕ, zero, suc, ◌+◌, ◌*◌, ◌<◌, ◌≤◌, List, [], ◌∷◌, ◌++◌, length, take, drop}
use Rattle.std.specs.Int.{w64, from_be_bytes}
use Rattle.cat_model.specs.CommitFile.{ListedSegment}

-- the number of 8 bytes from this offset on
unfoldable pub number_in_listing : List ℕ → ℕ → ℕ
number_in_listing bytes offset = from_be_bytes w64 (take 8 (drop offset bytes))

-- the segment of the index
abbrev pub listed_segment_at : List ℕ → ℕ → ListedSegment
listed_segment_at listing i = record { number = number_in_listing listing (16 * i); file = number_in_listing listing (16 * i + 8) }

-- the first so many
unfoldable pub all_listed_in : ℕ → List ℕ → List ListedSegment
all_listed_in zero listing = []
all_listed_in (suc n) listing = all_listed_in n listing ++ listed_segment_at listing n ∷ []

-- its number is none of those before it
abbrev pub DiffersFrom : List ℕ → ℕ → Type 0
DiffersFrom listing j = (i : ℕ) → i < j → (listed_segment_at listing i).number ≢ (listed_segment_at listing j).number

-- their numbers differ
abbrev pub NumbersDiffer : List ℕ → Type 0
NumbersDiffer listing = (j : ℕ) → 16 * j + 16 ≤ length listing → DiffersFrom listing j
