-- Ranges with one more: which stay apart, and which within the sources of the inputs' segments.
use Rattle.std.proofs.Common.{◌≡◌, ℕ, ◌+◌, ◌<◌, ◌≤◌, List, [], ◌∷◌, ◌++◌, length, map, take, sym, ap, ◌∙◌, subst, arith}
use Rattle.std.specs.Prelude.{Any, sum, HoldsAt}
use Rattle.std.specs.List.{AllByRecursion}
use Rattle.std.proofs.lemmas.List.Elements.{All-push, All-from_recursion, recursion_from_All}
use Rattle.std.proofs.lemmas.List.Sums.{sum-map, sum_by_more, sum_by-take-le}
use Rattle.cat_model.specs.View.{Row, Leaf, Segment}
use Rattle.cat_views.specs.cat_segment.Sources.{source_offset}
use Rattle.cat_merge.specs.Ranges.{CanBeOne, AreRangesApart, IsWithin, AreWithin}
use Rattle.cat_merge.specs.declared.sources.SourceRange.{SourceRange}

-- ---- no two that can be one

pub apart_pushed : (front : List SourceRange) (last next : SourceRange) → AreRangesApart (front ++ last ∷ []) → (CanBeOne last next → ⊥) → AreRangesApart ((front ++ last ∷ []) ++ next ∷ [])
apart_pushed [] last next are two = (two, tt)
apart_pushed (x ∷ []) last next are two = (are.0, (two, tt))
apart_pushed (x ∷ y ∷ front) last next are two = (are.0, apart_pushed (y ∷ front) last next are.1 two)

-- what can be one with a range can be with a shorter one that begins there
shorter : (first second long : SourceRange) → long.segment ≡ second.segment → long.offset ≡ second.offset → second.len ≤ long.len → CanBeOne first long → CanBeOne first second
shorter first second long segment offset len can = record { segment = can.segment ∙ segment; next = can.next ∙ offset; short = omega (arith, len, can.short) }

pub apart_joined : (front : List SourceRange) (last both : SourceRange) → both.segment ≡ last.segment → both.offset ≡ last.offset → last.len ≤ both.len → AreRangesApart (front ++ last ∷ []) → AreRangesApart (front ++ both ∷ [])
apart_joined [] last both segment offset len are = tt
apart_joined (x ∷ []) last both segment offset len are = (λ can. are.0 (shorter x last both segment offset len can), tt)
apart_joined (x ∷ y ∷ front) last both segment offset len are = (are.0, apart_joined (y ∷ front) last both segment offset len are.1)

-- ---- within the sources of segments

abbrev Within : List Leaf → SourceRange → Type 0
Within inputs range = Any (IsWithin range) inputs

front_within : (inputs : List Leaf) (front : List SourceRange) (last : SourceRange) → AreWithin inputs (front ++ last ∷ []) → AreWithin inputs front
front_within inputs front last are = All-from_recursion (Within inputs) front (fronts front (recursion_from_All (Within inputs) (front ++ last ∷ []) are))
  where
    fronts : (xs : List SourceRange) → AllByRecursion (Within inputs) (xs ++ last ∷ []) → AllByRecursion (Within inputs) xs
    fronts [] h = tt
    fronts (x ∷ xs) h = (h.0, fronts xs h.1)

-- a range that ends where one does of the same segment
ends_within : (inputs : List Leaf) (next both : SourceRange) → both.segment ≡ next.segment → both.offset + both.len ≡ next.offset + next.len → Within inputs next → Within inputs both
ends_within inputs next both segment end is = (
  is.0,
  is.1,
  is.2,
  is.3,
  record {
    segment = segment ∙ is.4.segment;
    inside = subst (λ n. n ≤ sum (map (λ (row : Row). row.length) is.1.segment.rows)) (sym end) is.4.inside;
  },
)

pub within_joined : (inputs : List Leaf) (front : List SourceRange) (last next both : SourceRange) → both.segment ≡ next.segment → both.offset + both.len ≡ next.offset + next.len
    → AreWithin inputs (front ++ last ∷ []) → Within inputs next → AreWithin inputs (front ++ both ∷ [])
within_joined inputs front last next both segment end are is =
    All-push (Within inputs) front both (front_within inputs front last are) (ends_within inputs next both segment end is)

pub within_pushed : (inputs : List Leaf) (ranges : List SourceRange) (next : SourceRange) → AreWithin inputs ranges → Within inputs next → AreWithin inputs (ranges ++ next ∷ [])
within_pushed inputs ranges next are is = All-push (Within inputs) ranges next are is

-- the text of a row's item stands within its segment's sources
pub row_within : (rows : List Row) (row len : ℕ) → row < length rows → HoldsAt (λ (r : Row). r.length ≡ len) rows row → source_offset rows row + len ≤ sum (map (λ (r : Row). r.length) rows)
row_within [] row len within at = absurd (omega (arith, within))
row_within (r ∷ rs) row len within at =
    let f : Row → ℕ = λ x. x.length in
    let rows : List Row = r ∷ rs in
    omega (arith, sum-map f (take row rows), sum-map f rows, sum_by_more f rows row r within, sum_by-take-le f rows (row + 1), at r)

pub source_within : (inputs : List Leaf) (segment : Segment) (row : ℕ) (range : SourceRange) → row < length segment.rows → range.segment ≡ segment.number → range.offset ≡ source_offset segment.rows row
    → HoldsAt (λ (r : Row). r.length ≡ range.len) segment.rows row → Any (λ (leaf : Leaf). leaf.segment ≡ segment) inputs → Any (IsWithin range) inputs
source_within inputs segment row range within number offset at there =
    let all : sum (map (λ (r : Row). r.length) there.1.segment.rows) ≡ sum (map (λ (r : Row). r.length) segment.rows) = ap (λ (s : Segment). sum (map (λ (r : Row). r.length) s.rows)) there.4 in (
      there.0,
      there.1,
      there.2,
      there.3,
      record {
        segment = number ∙ ap (λ (s : Segment). s.number) (sym there.4);
        inside = omega (arith, offset, row_within segment.rows row range.len within at, all);
      },
    )
