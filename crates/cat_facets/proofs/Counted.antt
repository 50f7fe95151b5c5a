-- Counts over lists, one element after another.
use Rattle.std.proofs.Common.{◌≡◌, ℕ, suc, ◌+◌, ◌<◌, ◌≤◌, List, [], ◌∷◌, ◌++◌, length, get_or, take, drop, map, set, Bool, true, false, cond, eqb, refl, sym, ap, ◌∙◌, arith, inl, inr, subst, length-append, get_or-set_other, get_or-set_same}
use Rattle.std.proofs.lemmas.Bool.{cases_Bool}
use Rattle.std.proofs.lemmas.Bool.Decides.{nat_tests}
use Rattle.std.proofs.lemmas.List.{map-append, take_more, take-append-drop}
use Rattle.std.proofs.Math.Seq.{drop-cons}
use Rattle.std.proofs.lemmas.List.FromFn.{length-range_with_len}
use Rattle.std.proofs.lemmas.List.Recursion.{is_count_by}
use Rattle.std.proofs.lemmas.List.Sums.{count_by-le-length, length-filter}
use Rattle.std.specs.List.{AllByRecursion, range_with_len}
use Rattle.std.specs.Prelude.{count_by, replicate}
use Rattle.cat_model.specs.RowSets.{first_only, has_row, indices, joined}
use Rattle.cat_model.specs.View.{selected}
use Rattle.cat_search.proofs.views_laws.Selected.{All-right, indices-within}
use Rattle.cat_facets.specs.Tallies.{globals_of, occurrences, one_if}

-- ---- a count by recursion on the list, where `count_by` keeps a running sum

one_more : (b : Bool) (n : ℕ) → n + one_if b ≡ cond b (1 + n) n
one_more true n = omega arith
one_more false n = omega arith

abbrev pub count : {X : Type 0} → (X → Bool) → List X → ℕ
count p [] = 0
count p (x ∷ xs) = count p xs + one_if (p x)

pub count-is : {X : Type 0} (p : X → Bool) (xs : List X) → count p xs ≡ count_by p xs
count-is {X} p xs = is_count_by (count p) p refl (λ x xs. one_more (p x) (count p xs)) xs

count-append : {X : Type 0} (p : X → Bool) (xs ys : List X) → count p (xs ++ ys) ≡ count p xs + count p ys
count-append p [] ys = omega arith
count-append p (x ∷ xs) ys = let h : count p (xs ++ ys) ≡ count p xs + count p ys = count-append p xs ys in omega (arith, h)

pub count_by-both : {X : Type 0} (p : X → Bool) (xs ys : List X) → count_by p (xs ++ ys) ≡ count_by p xs + count_by p ys
count_by-both p xs ys = sym (count-is p (xs ++ ys)) ∙ count-append p xs ys ∙ ap (λ n. n + count p ys) (count-is p xs) ∙ ap (λ n. count_by p xs + n) (count-is p ys)

zeroed : (b : Bool) → 0 + one_if b ≡ one_if b
zeroed b = omega arith

-- one element more
pub count_push : {X Y : Type 0} (p : Y → Bool) (f : X → Y) (xs : List X) (x : X) → count_by p (map f (xs ++ x ∷ [])) ≡ count_by p (map f xs) + one_if (p (f x))
count_push p f xs x =
    ap (count_by p) (map-append f xs (x ∷ [])) ∙ count_by-both p (map f xs) (f x ∷ [])
    ∙ ap (λ n. count_by p (map f xs) + n) (sym (count-is p (f x ∷ [])) ∙ zeroed (p (f x)))

pub count_step : {X Y : Type 0} (p : Y → Bool) (f : X → Y) (xs : List X) (i : ℕ) (d : X) → i < length xs
    → count_by p (map f (take (i + 1) xs)) ≡ count_by p (map f (take i xs)) + one_if (p (f (get_or xs i d)))
count_step p f xs i d lt = ap (λ ys. count_by p (map f ys)) (take_more xs i d lt) ∙ count_push p f (take i xs) (get_or xs i d)

-- the first elements count for no more than all
pub count_front : {X Y : Type 0} (p : Y → Bool) (f : X → Y) (xs ys : List X) (x : X) → count_by p (map f xs) + one_if (p (f x)) ≤ count_by p (map f (xs ++ x ∷ ys))
count_front p f xs ys x =
    let parts = ap (count_by p) (map-append f xs (x ∷ ys)) ∙ count_by-both p (map f xs) (f x ∷ map f ys) in
    let last = count-is p (f x ∷ map f ys) in
    omega (arith, parts, last)

pub count-map : {X Y : Type 0} (p : Y → Bool) (f : X → Y) (xs : List X) → count_by p (map f xs) ≡ count_by (λ x. p (f x)) xs
count-map {X} p f xs = sym (count-is p (map f xs)) ∙ each xs ∙ count-is (λ x. p (f x)) xs
  where
    each : (xs : List X) → count p (map f xs) ≡ count (λ x. p (f x)) xs
    each [] = refl
    each (x ∷ xs) = ap (λ n. n + one_if (p (f x))) (each xs)

-- ---- one place of a list is written

pub same_place : (x g : ℕ) → eqb x g ≡ true → g ≡ x
same_place x g e = grind (arith, nat_tests)

pub other_place : (x g : ℕ) → eqb x g ≡ false → g ≡ x → ⊥
other_place x g e s = grind (arith, nat_tests)

pub set_more : (totals : List ℕ) (x c t g : ℕ) → x < length totals → t ≡ get_or totals x 0 + c → get_or (set totals x t) g 0 ≡ get_or totals g 0 + cond (eqb x g) c 0
set_more totals x c t g within is = elim (cases_Bool (eqb x g)) [
  | inl here ↦
      let same : g ≡ x = same_place x g here in
      let new : get_or (set totals x t) x 0 ≡ t = get_or-set_same totals x t 0 within in
      ap (λ y. get_or (set totals x t) y 0) same ∙ new ∙ is ∙ ap (λ y. get_or totals y 0 + c) (sym same) ∙ ap (λ b. get_or totals g 0 + cond b c 0) (sym here)
  | inr away ↦
      let ne : g ≡ x → ⊥ = other_place x g away in
      let none : get_or totals g 0 ≡ get_or totals g 0 + 0 = omega arith in
      rw get_or-set_other (none ∙ ap (λ b. get_or totals g 0 + cond b c 0) (sym away))
]

pub set_less : (totals : List ℕ) (x t g : ℕ) → x < length totals → get_or totals x 0 ≡ t + 1 → get_or totals g 0 ≡ get_or (set totals x t) g 0 + one_if (eqb x g)
set_less totals x t g within is = elim (cases_Bool (eqb x g)) [
  | inl here ↦
      let same : g ≡ x = same_place x g here in
      let new : get_or (set totals x t) x 0 ≡ t = get_or-set_same totals x t 0 within in
      ap (λ y. get_or totals y 0) same ∙ is ∙ ap (λ n. n + 1) (sym new) ∙ ap (λ y. get_or (set totals x t) y 0 + 1) (sym same)
      ∙ ap (λ b. get_or (set totals x t) g 0 + one_if b) (sym here)
  | inr away ↦
      let ne : g ≡ x → ⊥ = other_place x g away in
      let kept : get_or (set totals x t) g 0 ≡ get_or totals g 0 = rw get_or-set_other refl in
      let none : get_or totals g 0 ≡ get_or (set totals x t) g 0 + 0 = omega (arith, kept) in
      none ∙ ap (λ b. get_or (set totals x t) g 0 + one_if b) (sym away)
]

-- ---- the rows of a set

pub row_within : (set : List Bool) (before after : List ℕ) (row : ℕ) → before ++ row ∷ after ≡ indices set → row < length set
row_within set before after row e =
    let all : AllByRecursion (λ i. i < length set) (before ++ row ∷ after) = subst (AllByRecursion (λ i. i < length set)) (sym e) (indices-within set) in
    (All-right (λ i. i < length set) before (row ∷ after) all).0

pub fewer : (set : List Bool) (before after : List ℕ) (row : ℕ) → before ++ row ∷ after ≡ indices set → length before < length set
fewer set before after row e =
    let long : length (before ++ row ∷ after) ≡ length before + length (row ∷ after) = length-append before (row ∷ after) in
    let all : length (indices set) ≤ length (range_with_len 0 (length set)) =
    let q = length-filter (has_row set) (range_with_len 0 (length set)) in let r = count_by-le-length (has_row set) (range_with_len 0 (length set)) in omega (arith, q, r) in
    let n : length (range_with_len 0 (length set)) ≡ length set = length-range_with_len 0 (length set) in
    let same : length (before ++ row ∷ after) ≡ length (indices set) = ap length e in
    omega (arith, long, all, n, same)

-- ---- a set and the rows that it leaves out

abbrev pub others : List Bool → List Bool
others set = joined first_only (replicate (length set) true) set

pub length-others : (set : List Bool) → length (others set) ≡ length set
length-others [] = refl
length-others (b ∷ bs) = ap suc (length-others bs)

two_parts : {X : Type 0} (p : X → Bool) (set : List Bool) (xs : List X) → length set ≡ length xs → count p (selected set xs) + count p (selected (others set) xs) ≡ count p xs
two_parts p [] [] e = omega arith
two_parts p [] (x ∷ xs) e = absurd (omega arith)
two_parts p (b ∷ bs) [] e = absurd (omega arith)
two_parts p (true ∷ bs) (x ∷ xs) e = let h : count p (selected bs xs) + count p (selected (others bs) xs) ≡ count p xs = two_parts p bs xs (omega arith) in omega (arith, h)
two_parts p (false ∷ bs) (x ∷ xs) e = let h : count p (selected bs xs) + count p (selected (others bs) xs) ≡ count p xs = two_parts p bs xs (omega arith) in omega (arith, h)

-- what is in the set, and what is left out, is all there is
pub count-others : {X : Type 0} (p : X → Bool) (set : List Bool) (xs : List X) → length set ≡ length xs
    → count_by p (selected set xs) + count_by p (selected (others set) xs) ≡ count_by p xs
count-others p set xs e =
    ap (λ n. n + count_by p (selected (others set) xs)) (sym (count-is p (selected set xs)))
    ∙ ap (λ n. count p (selected set xs) + n) (sym (count-is p (selected (others set) xs)))
    ∙ two_parts p set xs e ∙ count-is p xs

-- ---- ordinals that are still to come

itself : (x : ℕ) → eqb x x ≡ true
itself x = grind (arith, nat_tests)

-- the next ordinal is counted beside those before it
pub some_left : (globals os : List ℕ) (i : ℕ) → i < length os
    → occurrences (get_or globals (get_or os i 0) 0) (globals_of globals (take i os)) + 1 ≤ occurrences (get_or globals (get_or os i 0) 0) (globals_of globals os)
some_left globals os i lt =
    let f : ℕ → ℕ = λ o. get_or globals o 0 in
    let x = f (get_or os i 0) in
    let p : ℕ → Bool = λ y. eqb y x in
    let cut : os ≡ take i os ++ get_or os i 0 ∷ drop (suc i) os = sym (take-append-drop i os) ∙ ap (λ ys. take i os ++ ys) (drop-cons os i 0 lt) in
    let front = count_front p f (take i os) (drop (suc i) os) (get_or os i 0) in
    let all = ap (λ ys. count_by p (map f ys)) cut in
    let one : one_if (p x) ≡ 1 = ap one_if (itself x) in
    omega (arith, front, all, one)

pub count_one : {X : Type 0} (p : X → Bool) (x : X) → count_by p (x ∷ []) ≡ one_if (p x)
count_one p x = sym (count-is p (x ∷ [])) ∙ zeroed (p x)
