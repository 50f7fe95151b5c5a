-- The segments that memory has of a ledger, in its current list and in its recorded views, and what a line may make of them.
use Rattle.std.specs.Prelude.{◌≡◌, ◌⊎◌, ℕ, ◌<◌, ◌≤◌, List, ◌++◌, All, Contains, IfSome, IsSomeAnd}
use Rattle.std.specs.List.{flat_map}
use Rattle.cat_model.specs.View.{Segment, View, AgreesWith, segments_of}
use Rattle.cat_ledger_laws.specs.shape.Shapes.{Shape}

-- those of the current list, and then those of each recorded view
abbrev pub segments_in : Shape → List Segment
segments_in s = segments_of s.leaves ++ flat_map (λ (v : View). segments_of v.leaves) s.views

-- the merge in the making has the number
abbrev pub IsMergeNumber : Shape → ℕ → Type 0
IsMergeNumber s n = IsSomeAnd s.merging (λ m. m.number ≡ n)

-- no segment has had the number: it wasn't taken, or the merge in the making took it
abbrev pub IsUnused : Shape → ℕ → Type 0
IsUnused s n = (s.next_segment ≤ n) ⊎ IsMergeNumber s n

-- the segment is one of these, or has a number that none has had
abbrev pub IsOldOrNew : Shape → Segment → Type 0
IsOldOrNew s segment = Contains (segments_in s) segment ⊎ IsUnused s segment.number

-- Each segment that is there afterwards was there, or has a number that none had; numbers that were taken stay taken; and a merge
-- that is in the making afterwards has a number that no segment had.
pub record SegmentsGo (old new : Shape) : Type 0 where
  pub segments : All (IsOldOrNew old) (segments_in new)
  pub next : old.next_segment ≤ new.next_segment
  pub making : IfSome new.merging (λ m. IsUnused old m.number)

-- Segments of one number are one, wherever they stand; and each has a number that was taken, not by the merge in the making.
pub record SegmentsAgree (s : Shape) : Type 0 where
  pub same : All (λ a. All (AgreesWith a) (segments_in s)) (segments_in s)
  pub taken : All (λ a. a.number < s.next_segment) (segments_in s)
  pub apart : All (λ a. IsMergeNumber s a.number → ⊥) (segments_in s)
