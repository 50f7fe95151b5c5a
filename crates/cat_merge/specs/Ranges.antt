-- Ranges of the files with the sources of segments: which two can be one, and which lie within a segment's sources.
use Rattle.std.specs.Prelude.{◌≡◌, ◌≤◌, ◌<◌, ◌+◌, ◌^◌, List, [], ◌∷◌, map, sum, All, Any}
use Rattle.cat_model.specs.View.{Leaf}
use Rattle.cat_merge.specs.declared.sources.SourceRange.{SourceRange}

-- the second range follows the first at once, and both together are no longer than a range can be
pub record CanBeOne (first second : SourceRange) : Type 0 where
  pub segment : first.segment ≡ second.segment
  pub next : first.offset + first.len ≡ second.offset
  pub short : first.len + second.len < 2 ^ 32

-- no two ranges that stand side by side can be one
abbrev pub AreRangesApart : List SourceRange → Type 0
AreRangesApart [] = Unit {0}
AreRangesApart (first ∷ []) = Unit {0}
AreRangesApart (first ∷ second ∷ more) = (CanBeOne first second → ⊥) × AreRangesApart (second ∷ more)

-- the range lies within the sources of the segment's rows, dead ones too
pub record IsWithin (range : SourceRange) (leaf : Leaf) : Type 0 where
  pub segment : range.segment ≡ leaf.segment.number
  pub inside : range.offset + range.len ≤ sum (map (λ row. row.length) leaf.segment.rows)

-- each range lies within the sources of one of these segments
abbrev pub AreWithin : List Leaf → List SourceRange → Type 0
AreWithin inputs ranges = All (λ range. Any (IsWithin range) inputs) ranges
