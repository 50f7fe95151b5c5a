-- A number is one segment's, since its file is.
use Rattle.std.proofs.Common.{◌≡◌, ℕ, ◌<◌, List, [], ◌∷◌, Option, Some, None, sym, ◌∙◌, ap, subst}
use Rattle.std.specs.Prelude.{All, IsSomeAnd}
use Rattle.std.specs.List.{flat_map, AllByRecursion}
use Rattle.std.proofs.lemmas.List.Elements.{All-from_recursion}
use Rattle.cat_model.specs.Files.{Name}
use Rattle.cat_model.specs.Item.{Schema}
use Rattle.cat_model.specs.Layout.{SpellsSegment}
use Rattle.cat_model.specs.Text.{Text}
use Rattle.cat_model.specs.View.{Segment, AgreesWith}
use Rattle.cat_model.proofs.Lists.{All-weaken}
use Rattle.cat_ledger_laws.specs.model.Ledger.{IsLedger, IsPast, Ledger, NotOf, RecordedView, names_of_commit, names_of_merging, names_of_portion, names_of_view}
use Rattle.cat_ledger_laws.specs.model.Portions.{Merging, Portion}
use Rattle.cat_ledger_laws.specs.model.Stored.{AreStored, FileBytes, IsStored}
use Rattle.cat_ledger_laws.proofs.model.Users.{All-split, All-four, Four}
use Rattle.cat_ledger_laws.specs.shape.Shapes.{merging_shape, shape_of}
use Rattle.cat_commands.specs.sets.Segments.{IsMergeNumber, SegmentsAgree, segments_in}
use Rattle.cat_commands.specs.sets.SegmentLaws.{SegmentsAreOne}
use Rattle.cat_commands.proofs.sets.Going.{OfLedger, OfPortion, OfView}
use Rattle.cat_commands.proofs.sets.Shaped.{ledger_shown}

-- bytes are the file of one segment at most
abbrev pub SegmentsLaw : Type 0
SegmentsLaw = (bytes : List ℕ) (s t : Segment) → SpellsSegment bytes s → SpellsSegment bytes t → s ≡ t

-- ---- one number, one file, one segment

-- the segment stands in the file of its number
record IsFiled (files : FileBytes) (s : Segment) : Type 0 where
  bytes : Text
  there : files (Name.segment s.number) ≡ Some bytes
  spelled : SpellsSegment bytes s

filed_portions : (files : FileBytes) (schema : Schema) (ps : List Portion) → AllByRecursion (IsStored files schema) ps → AllByRecursion (OfPortion (IsFiled files) schema) ps
filed_portions files schema ps h =
    All-weaken (IsStored files schema) (OfPortion (IsFiled files) schema) (λ p k. record { bytes = k.segment.bytes; there = k.segment.there; spelled = k.segment.spelled }) ps h

filed : (files : FileBytes) (l : Ledger) → AreStored files l → OfLedger (IsFiled files) l
filed files l h = (
  filed_portions files l.schema l.portions h.portions,
  All-weaken (λ (v : RecordedView). AllByRecursion (IsStored files l.schema) v.portions) (OfView (IsFiled files) l.schema) (λ v k. filed_portions files l.schema v.portions k) l.views h.views,
)

one_segment : SegmentsLaw → (files : FileBytes) (s t : Segment) → IsFiled files s → IsFiled files t → AgreesWith s t
one_segment law files s t a b same =
    let bytes : Some b.bytes ≡ Some a.bytes = sym b.there ∙ ap (λ n. files (Name.segment n)) same ∙ a.there in
    let is : b.bytes ≡ a.bytes = cc bytes in
    law a.bytes t s (subst (λ (bytes : Text). SpellsSegment bytes t) is b.spelled) a.spelled

-- ---- numbers

-- what follows, for the number of a segment, from what holds of its file's name
module _ (R : Name → Type 0) (Q : ℕ → Type 0) (follows : (n : ℕ) → R (Name.segment n) → Q n) (schema : Schema) where
  abbrev ByNumber : Segment → Type 0
  ByNumber s = Q s.number

  named_portions : (ps : List Portion) → AllByRecursion R (flat_map names_of_portion ps) → AllByRecursion (OfPortion ByNumber schema) ps
  named_portions [] h = tt
  named_portions (p ∷ ps) h = (follows p.number h.0, named_portions ps h.1.1)

  named_views : (vs : List RecordedView) → AllByRecursion R (flat_map names_of_view vs) → AllByRecursion (OfView ByNumber schema) vs
  named_views [] h = tt
  named_views (v ∷ vs) h =
      let r : AllByRecursion R (names_of_view v) × AllByRecursion R (flat_map names_of_view vs) = All-split R (names_of_view v) (flat_map names_of_view vs) h in
      (named_portions v.portions r.0, named_views vs r.1)

not_of_merge : (schema : Schema) (o : Option Merging) (n : ℕ) → NotOf o (Name.segment n) → IsSomeAnd (merging_shape schema o) (λ m. m.number ≡ n) → ⊥
not_of_merge schema None n h e = e
not_of_merge schema (Some m) n h e = h (sym e)

-- ---- of a ledger

agree : SegmentsLaw → (files : FileBytes) (l : Ledger) → IsLedger l → AreStored files l → SegmentsAgree (shape_of l)
agree law files l ok stored =
    let segments : List Segment = segments_in (shape_of l) in
    let each : AllByRecursion (IsFiled files) segments = ledger_shown (IsFiled files) l (filed files l stored) in
    let past : Four (IsPast l.next_segment l.next_generation) (flat_map names_of_portion l.portions) (flat_map names_of_view l.views) (flat_map names_of_commit l.commits) (names_of_merging l.merging) =
    All-four (IsPast l.next_segment l.next_generation) (flat_map names_of_portion l.portions) (flat_map names_of_view l.views) (flat_map names_of_commit l.commits) (names_of_merging l.merging) ok.fresh in
    let below : (n : ℕ) → IsPast l.next_segment l.next_generation (Name.segment n) → n < l.next_segment = λ n h. h.1 in
    let other : (n : ℕ) → NotOf l.merging (Name.segment n) → IsMergeNumber (shape_of l) n → ⊥ = λ n h. not_of_merge l.schema l.merging n h in
    record {
      same = All-from_recursion (λ s. All (AgreesWith s) segments) segments
          (All-weaken (IsFiled files) (λ s. All (AgreesWith s) segments) (λ s a. All-from_recursion (AgreesWith s) segments (All-weaken (IsFiled files) (AgreesWith s) (λ t b. one_segment law files s t a b) segments each)) segments each);
      taken = All-from_recursion (λ (s : Segment). s.number < l.next_segment) segments
          (ledger_shown (λ s. s.number < l.next_segment) l (
            named_portions (IsPast l.next_segment l.next_generation) (λ n. n < l.next_segment) below l.schema l.portions past.portions,
            named_views (IsPast l.next_segment l.next_generation) (λ n. n < l.next_segment) below l.schema l.views past.views,
          ));
      apart = All-from_recursion (λ (s : Segment). IsMergeNumber (shape_of l) s.number → ⊥) segments
          (ledger_shown (λ s. IsMergeNumber (shape_of l) s.number → ⊥) l (
            named_portions (NotOf l.merging) (λ n. IsMergeNumber (shape_of l) n → ⊥) other l.schema l.portions ok.alone.portions,
            named_views (NotOf l.merging) (λ n. IsMergeNumber (shape_of l) n → ⊥) other l.schema l.views ok.alone.views,
          ));
    }

pub segments_are_one : SegmentsLaw → SegmentsAreOne
segments_are_one law told s l files c = subst SegmentsAgree c.shape (agree law files l c.sound c.stored)
