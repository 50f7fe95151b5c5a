-- What is kept beside a ledger stays right, whatever it is.
use Rattle.std.proofs.Common.{◌≡◌, ℕ, ◌<◌, ◌≤◌, List, Option, Some, None, refl, sym, ◌∙◌, subst, inl, inr}
use Rattle.std.specs.Prelude.{◌==◌, slice_index_or, All, Contains, IfSome, IsSomeAnd}
use Rattle.std.specs.List.{flat_map, AllByRecursion}
use Rattle.std.proofs.lemmas.List.Elements.{All-contains, All-contains_itself, All-from_recursion, All-weaker, recursion_from_All}
use Rattle.cat_model.specs.View.{Segment, View, AgreesWith, segments_of}
use Rattle.cat_ledger_laws.proofs.model.Users.{All-split}
use Rattle.cat_ledger_laws.proofs.model.Views.{All-unflat}
use Rattle.cat_ledger_laws.specs.shape.Shapes.{MergingShape, Shape}
use Rattle.cat_ledger_laws.proofs.lines.Found.{holds_found}
use Rattle.cat_ledger_laws.specs.lines.ReadLaws.{IsRecordedAs}
use Rattle.cat_commands.specs.sets.Beside.{AnyIsKnown, IsRightBeside}
use Rattle.cat_commands.specs.sets.Segments.{IsMergeNumber, IsOldOrNew, IsUnused, SegmentsAgree, SegmentsGo, segments_in}
use Rattle.cat_commands.specs.sets.KeptLaws.{RecordedAreAmong}

-- what follows of a value, if there is one
pub some_weaker : {A : Type 0} (P Q : A → Type 0) → ((x : A) → P x → Q x) → (o : Option A) → IfSome o P → IfSome o Q
some_weaker P Q f None h = h
some_weaker P Q f (Some x) h = f x h

-- ---- where all is known, and below anything

pub right_where_known : (Known : Segment → Type 0) (Below : ℕ → Type 0) → ((segment : Segment) → Known segment) → ((n : ℕ) → Below n) → (s : Shape) → IsRightBeside Known Below s
right_where_known Known Below known below s = record {
  known = λ k d short. known (slice_index_or (segments_in s) k d);
  below = below s.next_segment;
  making = if_some s.merging;
}
  where
    if_some : (o : Option MergingShape) → IfSome o (λ m. AnyIsKnown Known m.number)
    if_some None = tt
    if_some (Some m) = λ segment same. known segment

-- ---- where segments go on

-- a segment is known that no kept number reaches; numbers stay below more than they were below
module _ (Known : Segment → Type 0) (Below : ℕ → Type 0) (beyond : (n : ℕ) (s : Segment) → Below n → n ≤ s.number → Known s) (more : (n m : ℕ) → n ≤ m → Below n → Below m) where
  of_merge : (o : Option MergingShape) (n : ℕ) → IfSome o (λ m. AnyIsKnown Known m.number) → IsSomeAnd o (λ m. m.number ≡ n) → AnyIsKnown Known n
  of_merge None n right is = absurd is
  of_merge (Some m) n right is = subst (AnyIsKnown Known) is right

  -- whatever segment comes to have a number that none has had is known
  unused_known : (s : Shape) → IsRightBeside Known Below s → (n : ℕ) → IsUnused s n → AnyIsKnown Known n
  unused_known s right n (inl high) = λ segment same. beyond s.next_segment segment right.below (subst (λ n. s.next_segment ≤ n) (sym same) high)
  unused_known s right n (inr is) = of_merge s.merging n right.making is

  old_or_new : (s : Shape) → IsRightBeside Known Below s → (segment : Segment) → IsOldOrNew s segment → Known segment
  old_or_new s right segment (inl had) = All-contains Known (segments_in s) segment right.known had
  old_or_new s right segment (inr unused) = unused_known s right segment.number unused segment refl

  pub right_goes_on : (s new : Shape) → SegmentsGo s new → IsRightBeside Known Below s → IsRightBeside Known Below new
  right_goes_on s new go right = record {
    known = All-weaker (IsOldOrNew s) Known (old_or_new s right) (segments_in new) go.segments;
    below = more s.next_segment new.next_segment go.next right.below;
    making = some_weaker (λ (m : MergingShape). IsUnused s m.number) (λ (m : MergingShape). AnyIsKnown Known m.number) (λ m unused. unused_known s right m.number unused) new.merging go.making;
  }

-- ---- what is done with it

-- whatever was known of segments is, and numbers stay below what they were below, where these segments agree
module _ (Old New : Segment → Type 0) (OldBelow NewBelow : ℕ → Type 0) (segments : List Segment) (known : (s : Segment) → All (AgreesWith s) segments → Old s → New s) (below : (n : ℕ) → All (λ s. s.number < n) segments → OldBelow n → NewBelow n) where
  -- none of the segments is one that the merge in the making makes
  merge_known : (o : Option MergingShape) → All (λ a. IsSomeAnd o (λ m. m.number ≡ a.number) → ⊥) segments → IfSome o (λ m. AnyIsKnown Old m.number) → IfSome o (λ m. AnyIsKnown New m.number)
  merge_known None apart right = tt
  merge_known (Some m) apart any = λ segment same.
      known segment (All-weaker (λ (a : Segment). m.number ≡ a.number → ⊥) (AgreesWith segment) (λ a no is. absurd (no (sym same ∙ sym is))) segments apart) (any segment same)

  pub right_as_made : (s : Shape) → SegmentsAgree s → All (Contains (segments_in s)) segments → IsRightBeside Old OldBelow s → IsRightBeside New NewBelow s
  right_as_made s agree had right = record {
    known = λ k d short. known (slice_index_or (segments_in s) k d) (each (AgreesWith (slice_index_or (segments_in s) k d)) (agree.same k d short)) (right.known k d short);
    below = below s.next_segment (each (λ a. a.number < s.next_segment) agree.taken) right.below;
    making = merge_known s.merging (each (λ a. IsMergeNumber s a.number → ⊥) agree.apart) right.making;
  }
    where
      each : (P : Segment → Type 0) → All P (segments_in s) → All P segments
      each P h = All-weaker (Contains (segments_in s)) P (λ a c. All-contains P (segments_in s) a h c) segments had

-- ---- recorded views

-- what holds of each segment holds of those of a recorded view
pub recorded_have : (P : Segment → Type 0) (s : Shape) (t : ℕ) (view : View) → All P (segments_in s) → IsRecordedAs s.views t view → All P (segments_of view.leaves)
recorded_have P s t view all is =
    let others : List Segment = flat_map (λ (v : View). segments_of v.leaves) s.views in
    let both : AllByRecursion P (segments_of s.leaves) × AllByRecursion P others = All-split P (segments_of s.leaves) others (recursion_from_All P (segments_in s) all) in
    All-from_recursion P (segments_of view.leaves)
    (holds_found (λ (v : View). AllByRecursion P (segments_of v.leaves)) (λ v. v.token == t) s.views view (All-unflat P (λ (v : View). segments_of v.leaves) s.views both.1) is)

pub recorded_are_among : RecordedAreAmong
recorded_are_among s t view is = recorded_have (Contains (segments_in s)) s t view (All-contains_itself (segments_in s)) is
