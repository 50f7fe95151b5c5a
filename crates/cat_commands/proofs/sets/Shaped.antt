-- The segments of a ledger, as memory has them.
use Rattle.std.proofs.Common.{◌≡◌, ℕ, List, [], ◌∷◌, map, Option, Some, None, refl, subst, inl, inr}
use Rattle.std.specs.Prelude.{Contains, IfSome, IsSomeAnd}
use Rattle.std.specs.List.{flat_map, AllByRecursion}
use Rattle.std.proofs.lemmas.List.Elements.{All-contains_itself, All-from_recursion, recursion_from_All}
use Rattle.cat_model.specs.Item.{Schema}
use Rattle.cat_model.specs.View.{Segment, View, segments_of}
use Rattle.cat_model.proofs.Lists.{All-both, All-weaken}
use Rattle.cat_ledger_laws.specs.model.Ledger.{Ledger, RecordedView}
use Rattle.cat_ledger_laws.specs.model.Portions.{Merging, Portion, leaf_of}
use Rattle.cat_ledger_laws.proofs.model.Users.{All-split}
use Rattle.cat_ledger_laws.specs.shape.Shapes.{Shape, merging_shape, recorded_view, shape_of}
use Rattle.cat_commands.specs.sets.Segments.{IsOldOrNew, IsUnused, SegmentsGo, segments_in}
use Rattle.cat_commands.specs.sets.SegmentLaws.{SegmentsStay}
use Rattle.cat_commands.proofs.sets.Going.{Goes, OfLedger, OfPortion, OfView, Unused, calls_go}

-- ---- what holds of each segment

module _ (schema : Schema) (P : Segment → Type 0) where
  portions_shown : (ps : List Portion) → AllByRecursion (OfPortion P schema) ps → AllByRecursion P (segments_of (map (leaf_of schema) ps))
  portions_shown [] h = tt
  portions_shown (p ∷ ps) h = (h.0, portions_shown ps h.1)

  shown_portions : (ps : List Portion) → AllByRecursion P (segments_of (map (leaf_of schema) ps)) → AllByRecursion (OfPortion P schema) ps
  shown_portions [] h = tt
  shown_portions (p ∷ ps) h = (h.0, shown_portions ps h.1)

  -- the segments of recorded views
  abbrev in_views : List RecordedView → List Segment
  in_views vs = flat_map (λ (v : View). segments_of v.leaves) (map (recorded_view schema) vs)

  views_shown : (vs : List RecordedView) → AllByRecursion (OfView P schema) vs → AllByRecursion P (in_views vs)
  views_shown [] h = tt
  views_shown (v ∷ vs) h = All-both P (segments_of (map (leaf_of schema) v.portions)) (in_views vs) (portions_shown v.portions h.0) (views_shown vs h.1)

  shown_views : (vs : List RecordedView) → AllByRecursion P (in_views vs) → AllByRecursion (OfView P schema) vs
  shown_views [] h = tt
  shown_views (v ∷ vs) h =
      let r : AllByRecursion P (segments_of (map (leaf_of schema) v.portions)) × AllByRecursion P (in_views vs) = All-split P (segments_of (map (leaf_of schema) v.portions)) (in_views vs) h in
      (shown_portions v.portions r.0, shown_views vs r.1)

pub ledger_shown : (P : Segment → Type 0) (l : Ledger) → OfLedger P l → AllByRecursion P (segments_in (shape_of l))
ledger_shown P l h =
    All-both P (segments_of (map (leaf_of l.schema) l.portions)) (in_views l.schema P l.views) (portions_shown l.schema P l.portions h.0) (views_shown l.schema P l.views h.1)

shown_ledger : (P : Segment → Type 0) (l : Ledger) → AllByRecursion P (segments_in (shape_of l)) → OfLedger P l
shown_ledger P l h =
    let r : AllByRecursion P (segments_of (map (leaf_of l.schema) l.portions)) × AllByRecursion P (in_views l.schema P l.views) = All-split P (segments_of (map (leaf_of l.schema) l.portions)) (in_views l.schema P l.views) h in
    (shown_portions l.schema P l.portions r.0, shown_views l.schema P l.views r.1)

-- ---- numbers

merge_shown : (schema : Schema) (o : Option Merging) (n : ℕ) → IsSomeAnd o (λ m. m.number ≡ n) → IsSomeAnd (merging_shape schema o) (λ m. m.number ≡ n)
merge_shown schema None n h = h
merge_shown schema (Some m) n h = h

unused_shown : (l : Ledger) (n : ℕ) → Unused l n → IsUnused (shape_of l) n
unused_shown l n (inl h) = inl h
unused_shown l n (inr h) = inr (merge_shown l.schema l.merging n h)

-- what holds of the number of the merge in the making
numbered : (schema : Schema) (o : Option Merging) (Q : ℕ → Type 0) → ((n : ℕ) → IsSomeAnd o (λ m. m.number ≡ n) → Q n) → IfSome (merging_shape schema o) (λ m. Q m.number)
numbered schema None Q f = tt
numbered schema (Some m) Q f = f m.number refl

-- ---- of a call

each_old : (l : Ledger) → OfLedger (IsOldOrNew (shape_of l)) l
each_old l =
    let segments : List Segment = segments_in (shape_of l) in
    shown_ledger (IsOldOrNew (shape_of l)) l (All-weaken (Contains segments) (IsOldOrNew (shape_of l)) (λ s h. inl h) segments (recursion_from_All (Contains segments) segments (All-contains_itself segments)))

goes_shown : (l new : Ledger) → Goes (IsOldOrNew (shape_of l)) l new → SegmentsGo (shape_of l) (shape_of new)
goes_shown l new g = record {
  segments = All-from_recursion (IsOldOrNew (shape_of l)) (segments_in (shape_of new))
      (ledger_shown (IsOldOrNew (shape_of l)) new (g.holds (λ s u. inr (unused_shown l s.number u)) (each_old l)));
  next = g.next;
  making = numbered new.schema new.merging (IsUnused (shape_of l)) (λ n h. unused_shown l n (g.making n h));
}

pub segments_stay : SegmentsStay
segments_stay policy told told' s new line reply l files c answers =
    let x = answers l files c in
    let go : SegmentsGo (shape_of l) (shape_of x.0) = goes_shown l x.0 (calls_go (IsOldOrNew (shape_of l)) policy l x.0 line x.2 x.4) in
    subst (λ (s : Shape). SegmentsGo s new) c.shape (subst (SegmentsGo (shape_of l)) x.5.shape go)
