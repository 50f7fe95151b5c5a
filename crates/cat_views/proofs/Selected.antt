-- The elements of a list that a set marks.
use Rattle.std.proofs.Common.{◌≡◌, ℕ, zero, suc, ◌+◌, ◌<◌, List, [], ◌∷◌, ◌++◌, length, map, filter, get_or, Bool, true, false, cond, ◌&&◌, refl, sym, ap, ◌∙◌, arith}
use Rattle.std.specs.Prelude.{count_by}
use Rattle.std.specs.List.{AllByRecursion, flat_map, range_with_len}
use Rattle.std.proofs.lemmas.List.Sums.{length-filter}
use Rattle.cat_model.specs.RowSets.{joined, both, has_row, indices}
use Rattle.cat_model.specs.View.{selected}
use Rattle.cat_model.proofs.Lists.{All-both}
use Rattle.cat_model.proofs.Places.{EachPair}

pub selected-joined : {X : Type 0} (p : X → Bool) (set : List Bool) (xs : List X) → selected (joined both (map p xs) set) xs ≡ filter p (selected set xs)
selected-joined p [] [] = refl
selected-joined p [] (x ∷ xs) = refl
selected-joined p (b ∷ bs) [] = refl
selected-joined {X} p (true ∷ bs) (x ∷ xs) =
    elim (p x) as (λ t. selected ((t && true) ∷ joined both (map p xs) bs) (x ∷ xs) ≡ cond t (x ∷ filter p (selected bs xs)) (filter p (selected bs xs))) [
      | true ↦ ap (λ ys. x ∷ ys) (selected-joined p bs xs)
      | false ↦ selected-joined p bs xs
    ]
selected-joined {X} p (false ∷ bs) (x ∷ xs) =
    elim (p x) as (λ t. selected ((t && false) ∷ joined both (map p xs) bs) (x ∷ xs) ≡ filter p (selected bs xs)) [
      | true ↦ selected-joined p bs xs
      | false ↦ selected-joined p bs xs
    ]

pub length-joined : (f : Bool → Bool → Bool) (xs ys : List Bool) → length xs ≡ length ys → length (joined f xs ys) ≡ length ys
length-joined f [] [] e = refl
length-joined f [] (y ∷ ys) e = absurd (omega arith)
length-joined f (x ∷ xs) [] e = absurd (omega arith)
length-joined f (x ∷ xs) (y ∷ ys) e = let h : length (joined f xs ys) ≡ length ys = length-joined f xs ys (omega arith) in omega (arith, h)

pub selected-map : {X Y : Type 0} (f : X → Y) (set : List Bool) (xs : List X) → selected set (map f xs) ≡ map f (selected set xs)
selected-map f [] xs = refl
selected-map f (b ∷ bs) [] = refl
selected-map f (true ∷ bs) (x ∷ xs) = ap (λ ys. f x ∷ ys) (selected-map f bs xs)
selected-map f (false ∷ bs) (x ∷ xs) = selected-map f bs xs

filter-selected : {X : Type 0} (set : List Bool) (xs : List X) → length set ≡ length xs → length (filter (λ b. b) set) ≡ length (selected set xs)
filter-selected [] [] e = refl
filter-selected [] (x ∷ xs) e = refl
filter-selected (b ∷ bs) [] e = absurd (omega arith)
filter-selected (true ∷ bs) (x ∷ xs) e = let h : length (filter (λ b. b) bs) ≡ length (selected bs xs) = filter-selected bs xs (omega arith) in omega (arith, h)
filter-selected (false ∷ bs) (x ∷ xs) e = filter-selected bs xs (omega arith)

-- as many are marked as the set has
pub count-selected : {X : Type 0} (set : List Bool) (xs : List X) → length set ≡ length xs → count_by (λ b. b) set ≡ length (selected set xs)
count-selected set xs e = sym (length-filter (λ b. b) set) ∙ filter-selected set xs e

-- ---- by the standings of the set

next : (a k : ℕ) → a + 1 + k ≡ a + suc k
next a k = omega arith

first : (a : ℕ) → a + 0 ≡ a
first a = omega arith

picked : {X : Type 0} (f : ℕ → X) (t : ℕ → Bool) (a : ℕ) (bs : List Bool) (xs : List X) → length bs ≡ length xs
    → ((k : ℕ) → t (a + k) ≡ get_or bs k false) → ((k : ℕ) (d : X) → k < length xs → f (a + k) ≡ get_or xs k d)
    → map f (filter t (range_with_len a (length bs))) ≡ selected bs xs
picked f t a [] xs e ts fs = refl
picked f t a (b ∷ bs) [] e ts fs = absurd (omega arith)
picked {X} f t a (true ∷ bs) (x ∷ xs) e ts fs =
    let rest : map f (filter t (range_with_len (a + 1) (length bs))) ≡ selected bs xs =
    picked f t (a + 1) bs xs (omega arith) (λ k. ap t (next a k) ∙ ts (suc k)) (λ k d h. ap f (next a k) ∙ fs (suc k) d (omega arith)) in
    let here : t a ≡ true = ap t (sym (first a)) ∙ ts 0 in
    let item : f a ≡ x = ap f (sym (first a)) ∙ fs 0 x (omega arith) in
    rw (here, item, rest) refl
picked {X} f t a (false ∷ bs) (x ∷ xs) e ts fs =
    let rest : map f (filter t (range_with_len (a + 1) (length bs))) ≡ selected bs xs =
    picked f t (a + 1) bs xs (omega arith) (λ k. ap t (next a k) ∙ ts (suc k)) (λ k d h. ap f (next a k) ∙ fs (suc k) d (omega arith)) in
    let here : t a ≡ false = ap t (sym (first a)) ∙ ts 0 in
    rw here rest

-- the elements at the standings of the set
pub at_indices : {X : Type 0} (set : List Bool) (xs : List X) (d : X) → length set ≡ length xs → map (λ i. get_or xs i d) (indices set) ≡ selected set xs
at_indices set xs d e = picked (λ i. get_or xs i d) (has_row set) 0 set xs e (λ k. ap (has_row set) (zeroed k)) (λ k d' h. ap (λ i. get_or xs i d) (zeroed k) ∙ any_default xs k d d' h)
  where
    zeroed : (k : ℕ) → 0 + k ≡ k
    zeroed k = omega arith

    any_default : {X : Type 0} (xs : List X) (k : ℕ) (d d' : X) → k < length xs → get_or xs k d ≡ get_or xs k d'
    any_default [] k d d' h = absurd (omega arith)
    any_default (x ∷ xs) zero d d' h = refl
    any_default (x ∷ xs) (suc k) d d' h = any_default xs k d d' (omega arith)

within_range : (t : ℕ → Bool) (a n top : ℕ) → a + n ≡ top → AllByRecursion (λ i. i < top) (filter t (range_with_len a n))
within_range t a zero top e = tt
within_range t a (suc n) top e =
    elim (t a) as (λ b. AllByRecursion (λ i. i < top) (cond b (a ∷ filter t (range_with_len (a + 1) n)) (filter t (range_with_len (a + 1) n)))) [
      | true ↦ (omega arith, within_range t (a + 1) n top (omega arith))
      | false ↦ within_range t (a + 1) n top (omega arith)
    ]

-- each standing of the set is one of a row
pub indices-within : (set : List Bool) → AllByRecursion (λ i. i < length set) (indices set)
indices-within set = within_range (has_row set) 0 (length set) (length set) (omega arith)

-- ---- what holds of each element holds of those that are marked

pub All-selected : {X : Type 0} (P : X → Type 0) (set : List Bool) (xs : List X) → AllByRecursion P xs → AllByRecursion P (selected set xs)
All-selected P [] xs a = tt
All-selected P (b ∷ bs) [] a = tt
All-selected P (true ∷ bs) (x ∷ xs) a = (a.0, All-selected P bs xs a.1)
All-selected P (false ∷ bs) (x ∷ xs) a = All-selected P bs xs a.1

pub All-left : {X : Type 0} (P : X → Type 0) (xs ys : List X) → AllByRecursion P (xs ++ ys) → AllByRecursion P xs
All-left P [] ys a = tt
All-left P (x ∷ xs) ys a = (a.0, All-left P xs ys a.1)

pub All-right : {X : Type 0} (P : X → Type 0) (xs ys : List X) → AllByRecursion P (xs ++ ys) → AllByRecursion P ys
All-right P [] ys a = a
All-right P (x ∷ xs) ys a = All-right P xs ys a.1

pub Pairs-left : {X : Type 0} (R : X → X → Type 0) (xs ys : List X) → EachPair R (xs ++ ys) → EachPair R xs
Pairs-left R [] ys a = tt
Pairs-left R (x ∷ xs) ys a = (All-left (R x) xs ys a.0, Pairs-left R xs ys a.1)

pub Pairs-right : {X : Type 0} (R : X → X → Type 0) (xs ys : List X) → EachPair R (xs ++ ys) → EachPair R ys
Pairs-right R [] ys a = a
Pairs-right R (x ∷ xs) ys a = Pairs-right R xs ys a.1

-- pieces of a list, each with a set
module _ {L X : Type 0} (set : L → List Bool) (piece : L → List X) where
  pub All-pieces : (P : X → Type 0) (ls : List L) → AllByRecursion P (flat_map piece ls) → AllByRecursion P (flat_map (λ l. selected (set l) (piece l)) ls)
  All-pieces P [] a = tt
  All-pieces P (l ∷ ls) a =
      All-both P (selected (set l) (piece l)) (flat_map (λ k. selected (set k) (piece k)) ls)
      (All-selected P (set l) (piece l) (All-left P (piece l) (flat_map piece ls) a))
      (All-pieces P ls (All-right P (piece l) (flat_map piece ls) a))

  cut : (R : X → X → Type 0) (ls : List L) (bs : List Bool) (xs : List X) → EachPair R (xs ++ flat_map piece ls) → EachPair R (flat_map (λ l. selected (set l) (piece l)) ls)
      → EachPair R (selected bs xs ++ flat_map (λ l. selected (set l) (piece l)) ls)
  cut R ls [] xs a h = h
  cut R ls (b ∷ bs) [] a h = h
  cut R ls (true ∷ bs) (x ∷ xs) a h = (
    All-both (R x) (selected bs xs) (flat_map (λ l. selected (set l) (piece l)) ls)
        (All-selected (R x) bs xs (All-left (R x) xs (flat_map piece ls) a.0))
        (All-pieces (R x) ls (All-right (R x) xs (flat_map piece ls) a.0)),
    cut R ls bs xs a.1 h,
  )
  cut R ls (false ∷ bs) (x ∷ xs) a h = cut R ls bs xs a.1 h

  pub Pairs-pieces : (R : X → X → Type 0) (ls : List L) → EachPair R (flat_map piece ls) → EachPair R (flat_map (λ l. selected (set l) (piece l)) ls)
  Pairs-pieces R [] a = tt
  Pairs-pieces R (l ∷ ls) a = cut R ls (set l) (piece l) a (Pairs-pieces R ls (Pairs-right R (piece l) (flat_map piece ls) a))
