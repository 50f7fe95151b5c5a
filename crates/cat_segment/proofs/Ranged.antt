-- Of rows in order, those whose numbers lie in a range stand side by side.
use Rattle.std.proofs.Common.{◌≡◌, ℕ, ℤ, ◌<◌, ◌≤◌, ◌&&◌, ◌||◌, ◌==◌, List, [], ◌∷◌, ◌++◌, length, get_or, take, drop, map, filter, replicate, cond, not, Option, Some, None, Bool, true, false, AllPairs, refl, sym, ap, subst, ◌∙◌, inl, inr, arith, append-nil}
use Rattle.std.specs.List.{All, AllByRecursion, range_with_len}
use Rattle.std.specs.List.Sorted.{IsPartitionPoint, IsPartitionedBy}
use Rattle.std.specs.declared.cmp.Ordering.{Ordering}
use Rattle.std.specs.declared.cmp.Ordering.TheVariants.{Less, Equal, Greater}
use Rattle.std.specs.Ordering.{int_cmp, is_lt, nat_cmp, ordering_then}
use Rattle.std.proofs.lemmas.Bool.{true≢false, cases_order, cases_Bool, eqb-true, eq-eqb}
use Rattle.std.proofs.lemmas.Int.{ints}
use Rattle.std.proofs.lemmas.List.{take-append-drop, get_or-take, get_or-drop, get_or-map, length-map, length-take-le, length-drop}
use Rattle.std.proofs.lemmas.List.Elements.{All-filter, filter-append, recursion_from_All}
use Rattle.std.proofs.lemmas.List.Folds.{list_any_at}
use Rattle.std.proofs.lemmas.List.FromFn.{fill_by_all, get_or-range_with_len, length-range_with_len}
use Rattle.std.proofs.lemmas.List.Kept.{AllPairs-filter}
use Rattle.std.proofs.lemmas.List.Sorted.{All-permutation, list_any-IsPermutation}
use Rattle.cat_columns.specs.inverted.Postings.{is_among}
use Rattle.cat_columns.proofs.inverted.Rows.{with_rows_of_none}
use Rattle.cat_model.specs.RowSets.{with_rows}
use Rattle.cat_model.specs.Query.{has_some, int_le, open_or}
use Rattle.cat_segment.specs.Orders.{row_before, missing_last}
use Rattle.cat_segment.specs.Ranges.{IsOrderWhere, lies_between}

-- ---- a list that is parted by a test

module _ {X : Type 0} (q : X → Bool) where
  pub all_kept : (xs : List X) → AllByRecursion (λ y. q y ≡ true) xs → filter q xs ≡ xs
  all_kept [] a = refl
  all_kept (x ∷ xs) a = ap (λ b. cond b (x ∷ filter q xs) (filter q xs)) a.0 ∙ ap (λ l. x ∷ l) (all_kept xs a.1)

  pub none_kept : (xs : List X) → AllByRecursion (λ y. q y ≡ false) xs → filter q xs ≡ []
  none_kept [] a = refl
  none_kept (x ∷ xs) a = ap (λ b. cond b (x ∷ filter q xs) (filter q xs)) a.0 ∙ none_kept xs a.1

  module _ (xs : List X) (n : ℕ) (bound : n ≤ length xs) (point : IsPartitionPoint (λ y. q y ≡ true) (λ y. q y ≡ false) xs n) where
    front_passes : AllByRecursion (λ y. q y ≡ true) (take n xs)
    front_passes = recursion_from_All (λ y. q y ≡ true) (take n xs) (λ k d h.
        let short = length-take-le n xs bound in
        let under : k < n = omega (arith, h, short) in
        subst (λ y. q y ≡ true) (sym (get_or-take n xs k d under)) (point.0 k d (omega arith) under))

    back_fails : AllByRecursion (λ y. q y ≡ false) (drop n xs)
    back_fails = recursion_from_All (λ y. q y ≡ false) (drop n xs) (λ k d h.
        let short = length-drop n xs in
        subst (λ y. q y ≡ false) (sym (get_or-drop n xs k d)) (point.1 _ d (omega arith) (omega (arith, h, short))))

    pub kept_front : take n xs ≡ filter q xs
    kept_front = sym (
        ap (filter q) (sym (take-append-drop n xs)) ∙ filter-append q (take n xs) (drop n xs)
        ∙ ap (λ l. l ++ filter q (drop n xs)) (all_kept (take n xs) front_passes) ∙ ap (λ l. take n xs ++ l) (none_kept (drop n xs) back_fails)
        ∙ append-nil (take n xs)
        )

module _ {X : Type 0} (q : X → Bool) where
  other_way : (xs : List X) (p : X → Bool) → ((x : X) → p x ≡ not (q x)) → AllByRecursion (λ y. q y ≡ true) xs → AllByRecursion (λ y. p y ≡ false) xs
  other_way [] p h a = tt
  other_way (x ∷ xs) p h a = (h x ∙ ap not a.0, other_way xs p h a.1)

  other_back : (xs : List X) (p : X → Bool) → ((x : X) → p x ≡ not (q x)) → AllByRecursion (λ y. q y ≡ false) xs → AllByRecursion (λ y. p y ≡ true) xs
  other_back [] p h a = tt
  other_back (x ∷ xs) p h a = (h x ∙ ap not a.0, other_back xs p h a.1)

  pub kept_back : (xs : List X) (n : ℕ) → n ≤ length xs → IsPartitionPoint (λ y. q y ≡ true) (λ y. q y ≡ false) xs n → drop n xs ≡ filter (λ y. not (q y)) xs
  kept_back xs n bound point =
      let p : X → Bool = λ y. not (q y) in
      sym (
      ap (filter p) (sym (take-append-drop n xs)) ∙ filter-append p (take n xs) (drop n xs)
      ∙ ap (λ l. l ++ filter p (drop n xs)) (none_kept p (take n xs) (other_way (take n xs) p (λ x. refl) (front_passes q xs n bound point)))
      ∙ all_kept p (drop n xs) (other_back (drop n xs) p (λ x. refl) (back_fails q xs n bound point))
      )

-- ---- rows in order

module _ {X : Type 0} (cmp : X → X → Ordering) (p : X → Bool) (stays : (x y : X) → (cmp x y ≡ Greater → ⊥) → p y ≡ true → p x ≡ true) (values : List (Option X)) where
  abbrev passes_at : ℕ → Bool
  passes_at row = has_some p (get_or values row None)

  not_over : (o : Ordering) (a b : ℕ) → is_lt (ordering_then o (nat_cmp a b)) ≡ true → o ≡ Greater → ⊥
  not_over Less a b e g = absurd (cc)
  not_over Equal a b e g = absurd (cc)
  not_over Greater a b e g = absurd (cc)

  earlier : (x y : Option X) → (missing_last cmp x y ≡ Greater → ⊥) → has_some p y ≡ true → has_some p x ≡ true
  earlier (Some x) (Some y) h e = stays x y h e
  earlier None (Some y) h e = absurd (h refl)
  earlier x None h e = absurd (true≢false (sym e))

  pub parted_order : (rows : List ℕ) → AllPairs (λ a b. row_before cmp values a b ≡ true) rows → IsPartitionedBy passes_at rows
  parted_order rows rising i j d le lt e = elim (cases_order i j) [
    | inl same ↦ ap (λ k. passes_at (get_or rows k d)) same ∙ e
    | inr other ↦ elim other [
      | inl under ↦
          let a = get_or rows i d in
          let b = get_or rows j d in
          earlier (get_or values a None) (get_or values b None) (not_over (missing_last cmp (get_or values a None) (get_or values b None)) a b (rising i j d under lt)) e
      | inr over ↦ absurd (omega (arith, le, over))
    ]
  ]

-- ---- numbers

le_of : (x y : ℤ) → (int_cmp x y ≡ Greater → ⊥) → int_le x y ≡ true
le_of x y h = elim (cases_Bool (int_le x y)) [
  | inl e ↦ e
  | inr e ↦ let over : int_cmp x y ≡ Greater = grind (arith, ints, e) in absurd (h over)
]

chain : (x y z : ℤ) → int_le x y ≡ true → int_le y z ≡ true → int_le x z ≡ true
chain x y z p q = grind (arith, ints, p, q)

abbrev pub at_most : Option ℤ → ℤ → Bool
at_most high n = open_or (int_le n) high

abbrev pub at_least : Option ℤ → ℤ → Bool
at_least low n = open_or (λ a. int_le a n) low

pub at_most-stays : (high : Option ℤ) (x y : ℤ) → (int_cmp x y ≡ Greater → ⊥) → at_most high y ≡ true → at_most high x ≡ true
at_most-stays None x y h e = refl
at_most-stays (Some z) x y h e = chain x y z (le_of x y h) e

pub at_least-stays : (low : Option ℤ) (x y : ℤ) → (int_cmp y x ≡ Greater → ⊥) → at_least low y ≡ true → at_least low x ≡ true
at_least-stays None x y h e = refl
at_least-stays (Some z) x y h e = chain z y x e (le_of y x h)

not_back : (b c : Bool) → (b ≡ true → c ≡ true) → not c ≡ true → not b ≡ true
not_back true c h e = absurd (true≢false (sym e ∙ ap not (h refl)))
not_back false c h e = refl

pub below-stays : (low : Option ℤ) (x y : ℤ) → (int_cmp x y ≡ Greater → ⊥) → not (at_least low y) ≡ true → not (at_least low x) ≡ true
below-stays low x y h e = not_back (at_least low x) (at_least low y) (at_least-stays low y x h) e

-- ---- a range

filter-both : {X : Type 0} (p q r : X → Bool) → ((x : X) → r x ≡ (p x && q x)) → (xs : List X) → filter q (filter p xs) ≡ filter r xs
filter-both {X} p q r h [] = refl
filter-both {X} p q r h (x ∷ xs) = by (p x) (q x) (filter-both p q r h xs) (h x) refl
  where
    front : List X
    front = filter p xs

    all : List X
    all = filter r xs

    by : (a b : Bool) → filter q front ≡ all → r x ≡ (a && b) → q x ≡ b → filter q (cond a (x ∷ front) front) ≡ cond (r x) (x ∷ all) all
    by true b rest e f =
        ap (λ c. cond c (x ∷ filter q front) (filter q front)) f ∙ ap (λ l. cond b (x ∷ l) l) rest ∙ sym (ap (λ c. cond c (x ∷ all) all) e)
    by false b rest e f = rest ∙ sym (ap (λ c. cond c (x ∷ all) all) e)

both_rising : (a b : Bool) → (a && b) ≡ (b && not (not a))
both_rising true true = refl
both_rising true false = refl
both_rising false true = refl
both_rising false false = refl

pub between_rising : (low high v : Option ℤ) → lies_between low high v ≡ (has_some (at_most high) v && not (has_some (λ n. not (at_least low n)) v))
between_rising low high None = refl
between_rising low high (Some n) = both_rising (at_least low n) (at_most high n)

-- what the first test leaves at the head, without what the second takes from there
module _ (cmp : ℤ → ℤ → Ordering) (p q r : Option ℤ → Bool) (is : (v : Option ℤ) → r v ≡ (p v && not (q v))) (values : List (Option ℤ)) where
  abbrev at : (Option ℤ → Bool) → ℕ → Bool
  at test row = test (get_or values row None)

  abbrev PartsAt : (Option ℤ → Bool) → List ℕ → ℕ → Type 0
  PartsAt test rows n = IsPartitionPoint (λ y. test (get_or values y None) ≡ true) (λ y. test (get_or values y None) ≡ false) rows n

  module _ (rows front : List ℕ) (n : ℕ) (bound : n ≤ length rows) (point : PartsAt p rows n) (taken : front ≡ take n rows) where
    front_is : front ≡ filter (at p) rows
    front_is = taken ∙ kept_front (at p) rows n bound point

    pub front_rises : AllPairs (λ a b. row_before cmp values a b ≡ true) rows → AllPairs (λ a b. row_before cmp values a b ≡ true) front
    front_rises rising =
        subst (AllPairs (λ a b. row_before cmp values a b ≡ true)) (sym front_is)
        (AllPairs-filter (λ a b. row_before cmp values a b ≡ true) (at p) rows rising)

    pub range_is : (m : ℕ) → m ≤ length front → PartsAt q front m → drop m front ≡ filter (at r) rows
    range_is m bound2 point2 =
        kept_back (at q) front m bound2 point2 ∙ ap (filter (λ y. not (at q y))) front_is
        ∙ filter-both (at p) (λ y. not (at q y)) (at r) (λ row. is (get_or values row None)) rows

-- ---- the set of a range

pub among_filter : (f : ℕ → Bool) (xs : List ℕ) (k : ℕ) → is_among (filter f xs) k ≡ (f k && is_among xs k)
among_filter f [] k = by (f k)
  where
    by : (b : Bool) → false ≡ (b && false)
    by true = refl
    by false = refl
among_filter f (x ∷ xs) k = by (among_filter f xs k)
  where
    kept : List ℕ
    kept = filter f xs

    one : (c : Bool) → f k ≡ c → is_among kept k ≡ (f k && is_among xs k) → (x == k) ≡ true → is_among (cond c (x ∷ kept) kept) k ≡ (c && ((x == k) || is_among xs k))
    one true e rest same = ap (λ t. t || is_among kept k) same ∙ sym (ap (λ t. t || is_among xs k) same)
    one false e rest same = rest ∙ ap (λ b. b && is_among xs k) e

    two : (c : Bool) → is_among kept k ≡ (f k && is_among xs k) → (x == k) ≡ false → is_among (cond c (x ∷ kept) kept) k ≡ (f k && ((x == k) || is_among xs k))
    two true rest other = ap (λ t. t || is_among kept k) other ∙ rest ∙ sym (ap (λ t. f k && (t || is_among xs k)) other)
    two false rest other = rest ∙ sym (ap (λ t. f k && (t || is_among xs k)) other)

    by : is_among kept k ≡ (f k && is_among xs k) → is_among (cond (f x) (x ∷ kept) kept) k ≡ (f k && ((x == k) || is_among xs k))
    by rest = elim (cases_Bool (x == k)) [
      | inl same ↦ ap (λ y. is_among (cond (f y) (x ∷ kept) kept) k) (eqb-true x k same) ∙ one (f k) refl rest same
      | inr other ↦ two (f x) rest other
    ]

module _ {X : Type 0} (cmp : X → X → Ordering) (test : Option X → Bool) (values : List (Option X)) (rows : List ℕ) (is : IsOrderWhere cmp test values rows) where
  abbrev picked : ℕ → Bool
  picked row = test (get_or values row None)

  -- each of the rows is one of the column
  pub rows_within : All (λ row. row < length values) rows
  rows_within = subst (All (λ row. row < length values)) (sym is.passed)
      (All-filter picked (λ row. row < length values) is.order (All-permutation (λ row. row < length values) (range_with_len 0 (length values)) is.order is.all.rows range_within))
    where
      range_within : All (λ row. row < length values) (range_with_len 0 (length values))
      range_within k d h =
          let long = length-range_with_len 0 (length values) in
          let within : k < length values = omega (arith, h, long) in
          let at = get_or-range_with_len 0 (length values) k d within in
          omega (arith, within, at)

  all_among : (k : ℕ) → k < length values → is_among is.order k ≡ true
  all_among k h =
      sym (list_any-IsPermutation (λ r. r == k) (range_with_len 0 (length values)) is.order is.all.rows)
      ∙ list_any_at (λ r. r == k) (range_with_len 0 (length values)) k 0 (let long = length-range_with_len 0 (length values) in omega (arith, h, long))
      (let at = get_or-range_with_len 0 (length values) k 0 h in eq-eqb (get_or (range_with_len 0 (length values)) k 0) k (omega (arith, at)))

  pub row_among : (k : ℕ) → k < length values → is_among rows k ≡ picked k
  row_among k h =
      ap (λ l. is_among l k) is.passed ∙ among_filter picked is.order k ∙ ap (λ b. picked k && b) (all_among k h) ∙ same (picked k)
    where
      same : (b : Bool) → (b && true) ≡ b
      same true = refl
      same false = refl

  pub set_of_range : with_rows rows (replicate (length values) false) ≡ map test values
  set_of_range =
      with_rows_of_none rows (length values)
      ∙ sym (fill_by_all (is_among rows) (map test values) (length values) false (length-map values test)
      (λ k h. get_or-map test values k None false h ∙ sym (row_among k h)))
