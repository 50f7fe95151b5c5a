-- Which of the kept states is used, and that what is known stays so.
use Rattle.std.proofs.Common.{◌≡◌, ℕ, suc, ◌-◌, ◌<◌, Bool, true, false, cond, ◌&&◌, List, [], ◌∷◌, ◌++◌, length, take, drop, get_or, nat_eq, Option, Some, None, All, refl, sym, ap, ◌∙◌, arith, find}
use Rattle.std.specs.List.{position, remove}
use Rattle.std.specs.Option.{option_map_or}
use Rattle.std.specs.Cmp.Lexicographic.{pointwise, same_text as same_list}
use Rattle.std.proofs.lemmas.List.Elements.{All-append, All-drop, All-head, All-push, All-tail, All-take, All-weaker}
use Rattle.cat_model.specs.Text.{Text, same_text}
use Rattle.cat_model.specs.View.{Segment, AgreesWith}
use Rattle.cat_facets.specs.Kept.{is_kept_as, last_kept, segment_numbers, others, state_used_in, KnowsIn, RemembersOf, RemembersOfBelow}
use Rattle.cat_facets.specs.States.{ReaderState}

-- ---- what is said of every state stays so

module _ (P : ReaderState → Type 0) where
  All-removed : (ks : List ReaderState) (o : Option ℕ) → All P ks → All P (option_map_or (λ i. remove ks i) o ks)
  All-removed ks None h = h
  All-removed ks (Some i) h = All-append P (take i ks) (drop (suc i) ks) (All-take P i ks h) (All-drop P (suc i) ks h)

  All-last : (ks : List ReaderState) → All P ks → All P (last_kept ks)
  All-last ks h = All-drop P (length ks - 16) ks h

  pub All-used : (k : ReaderState) (ks : List ReaderState) → P k → All P ks → All P (state_used_in k ks)
  All-used k ks one h =
      let rest : List ReaderState = others (segment_numbers k.segments) k.dimension ks in
      All-last (rest ++ k ∷ []) (All-push P rest k (All-removed ks (position (is_kept_as (segment_numbers k.segments) k.dimension) ks) h) one)

pub used_remembers : (segments : List Segment) (dimension : Text) (ks : List ReaderState)
    → RemembersOf segments ks (state_used_in (record { segments = segments; dimension = dimension }) ks)
used_remembers segments dimension ks s agrees known = All-used (λ k. All (AgreesWith s) k.segments) (record { segments = segments; dimension = dimension }) ks agrees known

pub used_below : (segments : List Segment) (dimension : Text) (ks : List ReaderState)
    → RemembersOfBelow segments ks (state_used_in (record { segments = segments; dimension = dimension }) ks)
used_below segments dimension ks n few below = All-used (λ k. All (λ s. s.number < n) k.segments) (record { segments = segments; dimension = dimension }) ks few below

-- ---- segments that agree are those that have the same numbers

same_segments : (xs ys : List Segment) → segment_numbers xs ≡ segment_numbers ys → All (λ s. All (AgreesWith s) xs) ys → xs ≡ ys
same_segments [] [] e h = refl
same_segments [] (y ∷ ys) e h = absurd (let n = ap length e in omega (arith, n))
same_segments (x ∷ xs) [] e h = absurd (let n = ap length e in omega (arith, n))
same_segments (x ∷ xs) (y ∷ ys) e h =
    let first : x.number ≡ y.number = ap (λ ns. get_or ns 0 0) e in
    let rest : segment_numbers xs ≡ segment_numbers ys = ap (drop 1) e in
    let one : x ≡ y = All-head (AgreesWith y) x xs (All-head (λ s. All (AgreesWith s) (x ∷ xs)) y ys h) first in
    let more : xs ≡ ys = same_segments xs ys rest (All-weaker (λ s. All (AgreesWith s) (x ∷ xs)) (λ s. All (AgreesWith s) xs) (λ s a. All-tail (AgreesWith s) x xs a) ys (All-tail (λ s. All (AgreesWith s) (x ∷ xs)) y ys h)) in
    ap (λ z. z ∷ xs) one ∙ ap (λ zs. y ∷ zs) more

-- the two tests that make up the test of a state
both_true : (a b : Bool) → (a && b) ≡ true → (a ≡ true) × (b ≡ true)
both_true true b e = (refl, e)
both_true false b e = absurd cc

-- a kept state of these numbers and this dimension is the one of these segments, where they are known
module _ (segments : List Segment) (dimension : Text) (ks : List ReaderState) (known : All (KnowsIn ks) segments) where
  known_at : (i : ℕ) (d : ReaderState) → i < length ks → All (λ s. All (AgreesWith s) (get_or ks i d).segments) segments
  known_at i d lt = All-weaker (KnowsIn ks) (λ s. All (AgreesWith s) (get_or ks i d).segments) (λ s a. a i d lt) segments known

  is_it : (k : ReaderState) → is_kept_as (segment_numbers segments) dimension k ≡ true → All (λ s. All (AgreesWith s) k.segments) segments
      → k ≡ record { segments = segments; dimension = dimension }
  is_it k e agrees =
      let parts = both_true (same_text k.dimension dimension) (pointwise nat_eq (segment_numbers k.segments) (segment_numbers segments)) e in
      let named : k.dimension ≡ dimension = same_list k.dimension dimension (sym parts.0) in
      let numbers : segment_numbers k.segments ≡ segment_numbers segments = same_list (segment_numbers k.segments) (segment_numbers segments) (sym parts.1) in
      let same : k.segments ≡ segments = same_segments k.segments segments numbers agrees in
      λ j. record { segments = same j; dimension = named j }

  find_is : (xs : List ReaderState) → ((i : ℕ) (d : ReaderState) → i < length xs → All (λ s. All (AgreesWith s) (get_or xs i d).segments) segments)
      → (k : ReaderState) → find (is_kept_as (segment_numbers segments) dimension) xs ≡ Some k → k ≡ record { segments = segments; dimension = dimension }
  find_is [] all k e = absurd cc
  find_is (x ∷ xs) all k e =
      (elim (is_kept_as (segment_numbers segments) dimension x) as (λ b. is_kept_as (segment_numbers segments) dimension x ≡ b
      → cond b (Some x) (find (is_kept_as (segment_numbers segments) dimension) xs) ≡ Some k → k ≡ record { segments = segments; dimension = dimension }) [
        | true ↦ λ here f. let one : x ≡ k = cc in sym one ∙ is_it x here (all 0 x (omega arith))
        | false ↦ λ _ f. find_is xs (λ i d lt. all (suc i) d (omega arith)) k f
      ]) refl e

  pub found_is : (k : ReaderState) → find (is_kept_as (segment_numbers segments) dimension) ks ≡ Some k → k ≡ record { segments = segments; dimension = dimension }
  found_is k e = find_is ks known_at k e
