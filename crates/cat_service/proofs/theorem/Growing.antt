-- How segments grow from one line to the next, as a standing tells of them.
use Rattle.std.proofs.Common.{zero, suc, ◌≡◌, ℕ, ◌+◌, ◌<◌, ◌≤◌, List, [], ◌∷◌, ◌++◌, refl, sym, ◌∙◌, ap, subst, arith, inl, inr}
use Rattle.std.specs.Prelude.{◌⊎◌, Contains, Option, IfSome, Ok}
use Rattle.std.specs.List.{AllByRecursion}
use Rattle.std.proofs.lemmas.List.Elements.{recursion_from_All}
use Rattle.cat_model.specs.Run.{Answer, Exchange, News, Reply, Run, SegmentStat}
use Rattle.cat_model.specs.Standings.{HasReason, LiveRowsFall, Progress, SegmentsMove, Standing}
use Rattle.cat_model.specs.Table.{Opened}

-- the numbers of all lie below one, or none does
abbrev pub AllBelow : ℕ → List SegmentStat → Type 0
AllBelow n segments = AllByRecursion (λ (x : SegmentStat). x.number < n) segments

abbrev pub AllFrom : ℕ → List SegmentStat → Type 0
AllFrom n segments = AllByRecursion (λ (x : SegmentStat). n ≤ x.number) segments

pub below_found : (n : ℕ) (segments : List SegmentStat) (x : SegmentStat) → AllBelow n segments → Contains segments x → x.number < n
below_found n [] x all (k, within, is) = absurd (omega (arith, within))
below_found n (y ∷ segments) x all (zero, within, is) = subst (λ (z : SegmentStat). z.number < n) is all.0
below_found n (y ∷ segments) x all (suc k, within, is) = below_found n segments x all.1 (k, omega (arith, within), is)

pub below_fall : (n m : ℕ) (old new : List SegmentStat) → n ≤ m → LiveRowsFall old new → AllBelow n old → AllBelow m new
below_fall n m [] [] more falls all = tt
below_fall n m [] (y ∷ ys) more falls all = absurd falls
below_fall n m (x ∷ xs) [] more falls all = absurd falls
below_fall n m (x ∷ xs) (y ∷ ys) more falls all = (
  (let e = falls.0 in let b = all.0 in omega (arith, e, b, more)),
  below_fall n m xs ys more falls.3 all.1,
)

pub below_added : (n : ℕ) (segments : List SegmentStat) (x : SegmentStat) → x.number ≡ n → AllBelow n segments → AllBelow (n + 1) (segments ++ x ∷ [])
below_added n [] x is all = (omega (arith, is), tt)
below_added n (y ∷ segments) x is all = ((let b = all.0 in omega (arith, b)), below_added n segments x is all.1)

pub from_fall : (n : ℕ) (old new : List SegmentStat) → LiveRowsFall old new → AllFrom n old → AllFrom n new
from_fall n [] [] falls all = tt
from_fall n [] (y ∷ ys) falls all = absurd falls
from_fall n (x ∷ xs) [] falls all = absurd falls
from_fall n (x ∷ xs) (y ∷ ys) falls all = ((let e = falls.0 in let b = all.0 in omega (arith, e, b)), from_fall n xs ys falls.3 all.1)

pub from_added : (n : ℕ) (segments : List SegmentStat) (x : SegmentStat) → n ≤ x.number → AllFrom n segments → AllFrom n (segments ++ x ∷ [])
from_added n [] x is all = (is, tt)
from_added n (y ∷ segments) x is all = (all.0, from_added n segments x is all.1)

pub falls_on : (a b c : List SegmentStat) → LiveRowsFall a b → LiveRowsFall b c → LiveRowsFall a c
falls_on [] [] c f g = g
falls_on [] (y ∷ b) c f g = absurd f
falls_on (x ∷ a) [] c f g = absurd f
falls_on (x ∷ a) (y ∷ b) [] f g = absurd g
falls_on (x ∷ a) (y ∷ b) (z ∷ c) f g = (
  g.0 ∙ f.0,
  g.1 ∙ f.1,
  (let k = f.2 in let m = g.2 in omega (arith, k, m)),
  falls_on a b c f.3 g.3,
)

-- what fell of two lists is two lists
abbrev pub FallsApart : (front back new : List SegmentStat) → Type 0
FallsApart front back new = (f b : List SegmentStat) × (new ≡ f ++ b) × LiveRowsFall front f × LiveRowsFall back b

pub apart : (front back new : List SegmentStat) → LiveRowsFall (front ++ back) new → FallsApart front back new
apart [] back new falls = ([], new, refl, tt, falls)
apart (x ∷ front) back [] falls = absurd falls
apart (x ∷ front) back (y ∷ new) falls =
    let rest = apart front back new falls.3 in (y ∷ rest.0, rest.1, ap (λ ys. y ∷ ys) rest.2, (falls.0, falls.1, falls.2, rest.3), rest.4)

-- what a line that isn't told `done` makes of the segments
pub record Steps (s new : Standing) : Type 0 where
  pub mid : List SegmentStat
  pub falls : LiveRowsFall mid new.stat.segments
  pub is : (mid ≡ s.stat.segments)
      ⊎ ((x : SegmentStat) × (x.number ≡ s.next_segment) × (mid ≡ s.stat.segments ++ x ∷ []) × (new.next_segment ≡ s.next_segment + 1)
      × (x.rows ≡ s.stat.buffered))
  pub next : s.next_segment ≤ new.next_segment

pub below_step : (s new : Standing) → Steps s new → AllBelow s.next_segment s.stat.segments → AllBelow new.next_segment new.stat.segments
below_step s new step all = elim step.is [
  | inl same ↦ below_fall s.next_segment new.next_segment step.mid new.stat.segments step.next step.falls (subst (AllBelow s.next_segment) (sym same) all)
  | inr one ↦
      below_fall (s.next_segment + 1) new.next_segment step.mid new.stat.segments (let e = one.3 in omega (arith, e)) step.falls
      (subst (AllBelow (s.next_segment + 1)) (sym one.2) (below_added s.next_segment s.stat.segments one.0 one.1 all))
]

-- of what stands in a row, each part
pub below_parts : (n : ℕ) (xs ys : List SegmentStat) → AllBelow n (xs ++ ys) → AllBelow n xs × AllBelow n ys
below_parts n [] ys all = (tt, all)
below_parts n (x ∷ xs) ys all = let h = below_parts n xs ys all.1 in ((all.0, h.0), h.1)

below_joined : (n : ℕ) (xs ys : List SegmentStat) → AllBelow n xs → AllBelow n ys → AllBelow n (xs ++ ys)
below_joined n [] ys low more = more
below_joined n (x ∷ xs) ys low more = (low.0, below_joined n xs ys low.1 more)

below_made : (n : ℕ) (m : ℕ × Progress) (made : List SegmentStat) → m.0 < n
    → AllByRecursion (λ (x : SegmentStat). (x.number ≡ m.0) × (x.rows ≤ m.1.rows)) made → AllBelow n made
below_made n m [] low all = tt
below_made n m (x ∷ made) low all = ((let e = all.0.0 in omega (arith, e, low)), below_made n m made low all.1)

-- the numbers of all segments that stand, and of the merge in the making, are below the next one
abbrev pub NumbersAreLow : Standing → Type 0
NumbersAreLow s = AllBelow s.next_segment s.stat.segments × IfSome s.merging (λ m. m.0 < s.next_segment)

below_more : (n m : ℕ) (xs : List SegmentStat) → n ≤ m → AllBelow n xs → AllBelow m xs
below_more n m [] more all = tt
below_more n m (x ∷ xs) more all = ((let b = all.0 in omega (arith, b, more)), below_more n m xs more all.1)

low_moves : (s : Standing) (r : Reply) (mid : List SegmentStat) (next : ℕ) → NumbersAreLow s → s.next_segment ≤ next → SegmentsMove s r mid next → AllBelow next mid
low_moves s (Ok (Answer.news News.done)) mid next low more (m, front, taken, made, back, is, was, new, some, rows, few, so) =
    let n = s.next_segment in
    let old = below_parts n front (taken ++ back) (subst (AllBelow n) was low.0) in
    let number : m.0 < n = subst (λ (o : Option (ℕ × Progress)). IfSome o (λ k. k.0 < n)) is low.1 in
    let all = below_made n m made number (recursion_from_All (λ (x : SegmentStat). (x.number ≡ m.0) × (x.rows ≤ m.1.rows)) made so) in
    below_more n next mid more (subst (AllBelow n) (sym new) (below_joined n front (made ++ back) old.0 (below_joined n made back all (below_parts n taken back old.1).1)))
low_moves s _ mid next low more h = elim h [
  | inl same ↦ subst (AllBelow next) (sym same) (below_more s.next_segment next s.stat.segments more low.0)
  | inr one ↦
      let x : SegmentStat = record { number = s.next_segment; rows = s.stat.buffered; live = s.stat.buffered } in
      subst (AllBelow next) (sym one.1)
      (below_more (s.next_segment + 1) next (s.stat.segments ++ x ∷ []) (let e = one.2 in omega (arith, e)) (below_added s.next_segment s.stat.segments x refl low.0))
]

pub in_one : {X : Type 0} (x y : X) → Contains (x ∷ []) y → x ≡ y
in_one x y (zero, within, is) = is
in_one x y (suc k, within, is) = absurd (omega (arith, within))

module _ (always : Type 0) (factor least : ℕ) (from : Opened) where
  -- told anything but `done`, the segments stay, or one more comes last
  undone_moves : (s : Standing) (r : Reply) (mid : List SegmentStat) (next : ℕ) → (r ≡ Ok (Answer.news News.done) → ⊥) → SegmentsMove s r mid next
      → (mid ≡ s.stat.segments)
      ⊎ ((0 < s.stat.buffered) × (mid ≡ s.stat.segments ++ record { number = s.next_segment; rows = s.stat.buffered; live = s.stat.buffered } ∷ [])
      × (next ≡ s.next_segment + 1))
  undone_moves s (Ok (Answer.news News.done)) mid next undone h = absurd (undone refl)
  undone_moves s _ mid next undone h = h

  pub steps : (past : Run) (s : Standing) (e : Exchange) (new : Standing) → (e.reply ≡ Ok (Answer.news News.done) → ⊥) → HasReason always factor least from past s e new → Steps s new
  steps past s e new undone h = record {
    mid = h.moves.segments.0;
    falls = h.moves.segments.1;
    is = elim (undone_moves s e.reply h.moves.segments.0 new.next_segment undone h.moves.segments.2) [
      | inl same ↦ inl same
      | inr one ↦ inr (record { number = s.next_segment; rows = s.stat.buffered; live = s.stat.buffered }, refl, one.1, one.2, refl)
    ];
    next = h.moves.segment.0;
  }

  -- numbers stay low, whatever is told
  pub low_behind : (past : Run) (s : Standing) (e : Exchange) (new : Standing) → HasReason always factor least from past s e new → NumbersAreLow s → NumbersAreLow new
  low_behind past s e new h low =
      let m = h.moves.segments in
      let next = new.next_segment in (
        below_fall next next m.0 new.stat.segments (omega arith) m.1 (low_moves s e.reply m.0 next low h.moves.segment.0 m.2),
        h.moves.making,
      )
