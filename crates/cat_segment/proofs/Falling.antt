-- The runs of rows with one number, read from the last one down, are all rows in falling order of their numbers.
use Rattle.std.proofs.Common.{◌≡◌, ◌<◌, ◌≤◌, ◌+◌, ◌-◌, ◌==◌, ◌&&◌, ◌||◌, ◌++◌, ◌∷◌, [], inl, inr, ℕ, ℤ, zero, suc, Bool, true, false, not}
use Rattle.std.proofs.Common.{cond, List, length, map, filter, get_or, take, drop, Option, Some, None, AllPairs, IsPermutation, refl, sym}
use Rattle.std.proofs.Common.{ap, subst, ◌∙◌, arith, append-nil}
use Rattle.std.specs.Prelude.{All, is_some}
use Rattle.std.specs.Cmp.{tied_itself}
use Rattle.std.specs.List.{AllByRecursion, flat_map, list_any, range_with_len}
use Rattle.std.specs.List.Sorted.{IsPartitionPoint, IsPartitionedBy}
use Rattle.std.specs.declared.cmp.Ordering.{Ordering}
use Rattle.std.specs.declared.cmp.Ordering.TheVariants.{Less, Equal, Greater}
use Rattle.std.specs.Ordering.{int_cmp, is_lt, nat_cmp, ordering_then}
use Rattle.std.proofs.Math.Bool.{or-true}
use Rattle.std.proofs.lemmas.Bool.{true≢false, cases_Bool, cases_eq, eq-eqb, eqb-true}
use Rattle.std.proofs.lemmas.Bool.Decides.{nat_tests}
use Rattle.std.proofs.lemmas.Cmp.{int_cmp_total}
use Rattle.std.proofs.lemmas.Grind.{flat_map-append}
use Rattle.std.proofs.lemmas.List.{get_or-map, length-drop, length-map, take-append-drop}
use Rattle.std.proofs.lemmas.List.Elements.{All-filter, All-from_recursion, filter-append, filter_passes, recursion_from_All}
use Rattle.std.proofs.lemmas.List.Folds.{flat_map-map}
use Rattle.std.proofs.lemmas.List.FromFn.{get_or-range_with_len, length-range_with_len}
use Rattle.std.proofs.lemmas.List.Kept.{AllPairs-filter}
use Rattle.std.proofs.lemmas.List.Sorted.{All-permutation, IsPermutation-append_left, IsPermutation-filter_both}
use Rattle.std.proofs.lemmas.List.Sorted.{IsPermutation-trans, length_permutation, list_any-IsPermutation}
use Rattle.cat_columns.specs.inverted.Postings.{is_among}
use Rattle.cat_model.proofs.Lists.{All-weaken}
use Rattle.cat_model.proofs.Places.{EachPair, all_pairs, each_pair}
use Rattle.cat_segment.specs.NumberRuns.{ends_run, number_at_place, parts_from_end, run_through, same_number}
use Rattle.cat_segment.specs.Orders.{IsOrderBy, missing_last, row_before, turned}
use Rattle.cat_segment.specs.Ranges.{IsOrderWhere}
use Rattle.cat_segment.proofs.Groups.{groups_are_all, groups_rise, pairs_append}
use Rattle.cat_segment.proofs.Ranged.{among_filter, kept_back, kept_front, none_kept}
use Rattle.cat_segment.proofs.RowOrders.{missing_total, row_ranks, turned_total}
use Rattle.cat_segment.proofs.Runs.{back_number, itself, later_differs, not_above, number_is, part_of_place, same_is, tied_is}

abbrev FollowsIn : List (Option ℤ) → ℕ → ℕ → Type 0
FollowsIn values a b = row_before (turned int_cmp) values a b ≡ true

turned_less : (a b : Option ℤ) → is_some b ≡ true → missing_last int_cmp a b ≡ Less → missing_last (turned int_cmp) b a ≡ Less
turned_less (Some a) (Some b) h e = e
turned_less a None h e = absurd (true≢false (sym h))
turned_less None (Some b) h e = absurd (cc)

second_false : (a b : Bool) → (a || not b) ≡ false → b ≡ true
second_false true b e = absurd (true≢false e)
second_false false true e = refl
second_false false false e = absurd (true≢false e)

lower_first : (o : Ordering) (a b : ℕ) → is_lt (ordering_then o (nat_cmp a b)) ≡ true → o ≡ Equal → a < b
lower_first Equal a b e f = grind (arith, nat_tests, e)
lower_first Less a b e f = absurd (cc)
lower_first Greater a b e f = absurd (cc)

-- ---- the numbers of runs, the greatest first

module _ (values : List (Option ℤ)) (rows : List ℕ) (rising : AllPairs (λ a b. row_before int_cmp values a b ≡ true) rows) where
  abbrev number : ℕ → Option ℤ
  number place = number_at_place values rows place

  -- the rows with this number
  abbrev group : Option ℤ → List ℕ
  group k = filter (λ row. same_number k (get_or values row None)) rows

  abbrev place_of : ℕ → ℕ
  place_of index = length rows - 1 - index

  abbrev ends : ℕ → Bool
  ends index = ends_run values rows (place_of index)

  abbrev number_of : ℕ → Option ℤ
  number_of index = number (place_of index)

  abbrev indices : List ℕ
  indices = range_with_len 0 (length rows)

  abbrev numbers : List (Option ℤ)
  numbers = map number_of (filter ends indices)

  indices_within : All (λ i. i < length rows) indices
  indices_within i d h =
      let long = length-range_with_len 0 (length rows) in
      let at = get_or-range_with_len 0 (length rows) i d (omega (arith, h, long)) in
      omega (arith, at, h, long)

  indices_rise : AllPairs (λ a b. a < b) indices
  indices_rise i j d p q =
      let long = length-range_with_len 0 (length rows) in
      let at_i = get_or-range_with_len 0 (length rows) i d (omega (arith, p, q, long)) in
      let at_j = get_or-range_with_len 0 (length rows) j d (omega (arith, q, long)) in
      omega (arith, p, at_i, at_j)

  -- ---- each run is the rows with its number

  whole_run : (place : ℕ) → ends_run values rows place ≡ true → run_through values rows place ≡ group (number place)
  whole_run place last =
      let q : ℕ → Bool = λ row. same_number (number place) (get_or values row None) in
      let none : filter q (drop (place + 1) rows) ≡ [] = none_kept q (drop (place + 1) rows)
      (recursion_from_All (λ y. q y ≡ false) (drop (place + 1) rows) (λ k d h.
      let long = length-drop (place + 1) rows in
      ap (same_number (number place)) (back_number values rows (place + 1) k d (omega (arith, h, long)))
      ∙ later_differs values rows rising place (place + 1 + k) (omega arith) (omega (arith, h, long)) last)) in
      sym (
      ap (filter q) (sym (take-append-drop (place + 1) rows)) ∙ filter-append q (take (place + 1) rows) (drop (place + 1) rows)
      ∙ ap (λ l. filter q (take (place + 1) rows) ++ l) none ∙ append-nil (filter q (take (place + 1) rows))
      )

  runs_are_groups : (is : List ℕ) → flat_map (part_of_place values rows []) is ≡ flat_map group (map number_of (filter ends is))
  runs_are_groups [] = refl
  runs_are_groups (i ∷ is) = by (ends i) refl (runs_are_groups is)
    where
      rest : List ℕ
      rest = filter ends is

      others : List ℕ
      others = flat_map (part_of_place values rows []) is

      by : (b : Bool) → ends i ≡ b → others ≡ flat_map group (map number_of rest)
          → cond b (run_through values rows (place_of i)) [] ++ others ≡ flat_map group (map number_of (cond b (i ∷ rest) rest))
      by true e h = ap (λ l. l ++ others) (whole_run (place_of i) e) ∙ ap (λ l. group (number_of i) ++ l) h
      by false e h = h

  -- ---- the numbers fall

  lower : (q p : ℕ) → q < p → p < length rows → ends_run values rows q ≡ true → missing_last int_cmp (number q) (number p) ≡ Less
  lower q p lt within last = by (missing_last int_cmp (number q) (number p)) refl
    where
      by : (o : Ordering) → missing_last int_cmp (number q) (number p) ≡ o → missing_last int_cmp (number q) (number p) ≡ Less
      by Less e = e
      by Equal e =
          let same : number q ≡ number p = tied_is (number q) (number p) e in
          let met : same_number (number q) (number p) ≡ true = ap (same_number (number q)) (sym same) ∙ itself (number q) in
          absurd (true≢false (sym met ∙ later_differs values rows rising q p lt within last))
      by Greater e = absurd (not_above values rows rising q p (omega (arith, lt)) within e)

  module _ (numbered : All (λ row. is_some (get_or values row None) ≡ true) rows) where
    has_number : (place : ℕ) → place < length rows → is_some (number place) ≡ true
    has_number place within = numbered place 0 within

    abbrev Under : Option ℤ → Option ℤ → Type 0
    Under k l = missing_last (turned int_cmp) k l ≡ Less

    numbers_fall : EachPair Under numbers
    numbers_fall = each_pair Under numbers (λ i j d p q.
        let picked = filter ends indices in
        let long : length numbers ≡ length picked = length-map picked number_of in
        let at_i : get_or numbers i d ≡ number_of (get_or picked i 0) = get_or-map number_of picked i 0 d (omega (arith, p, q, long)) in
        let at_j : get_or numbers j d ≡ number_of (get_or picked j 0) = get_or-map number_of picked j 0 d (omega (arith, q, long)) in
        let lt = AllPairs-filter (λ a b. a < b) ends indices indices_rise i j 0 p (omega (arith, q, long)) in
        let within = All-filter ends (λ k. k < length rows) indices indices_within j 0 (omega (arith, q, long)) in
        let last : ends (get_or picked j 0) ≡ true = filter_passes ends indices j 0 (omega (arith, q, long)) in
        let a = place_of (get_or picked j 0) in
        let b = place_of (get_or picked i 0) in
        let less = lower a b (omega (arith, lt, within)) (omega (arith, lt, within)) last in
        ap (λ k. missing_last (turned int_cmp) k (get_or numbers j d)) at_i ∙ ap (missing_last (turned int_cmp) (number b)) at_j
        ∙ turned_less (number a) (number b) (has_number b (omega (arith, lt, within))) less)

    -- ---- each row's number is one of them

    any_of : (v : Option ℤ) (is : List ℕ) (k : ℕ) → k < length is → ends (get_or is k 0) ≡ true
        → same_number (number_of (get_or is k 0)) v ≡ true → list_any (λ x. same_number x v) (map number_of (filter ends is)) ≡ true
    any_of v [] k h e f = absurd (omega (arith, h))
    any_of v (i ∷ is) zero h e f =
        ap (λ b. list_any (λ x. same_number x v) (map number_of (cond b (i ∷ filter ends is) (filter ends is)))) e
        ∙ ap (λ b. b || list_any (λ x. same_number x v) (map number_of (filter ends is))) f
    any_of v (i ∷ is) (suc k) h e f = by (ends i) (any_of v is k (omega (arith, h)) e f)
      where
        by : (b : Bool) → list_any (λ x. same_number x v) (map number_of (filter ends is)) ≡ true
            → list_any (λ x. same_number x v) (map number_of (cond b (i ∷ filter ends is) (filter ends is))) ≡ true
        by true rest = ap (λ b. same_number (number_of i) v || b) rest ∙ or-true (same_number (number_of i) v)
        by false rest = rest

    met_at : (place : ℕ) → place < length rows → ends_run values rows place ≡ true
        → list_any (λ x. same_number x (number place)) numbers ≡ true
    met_at place within last =
        let index = place_of place in
        let long = length-range_with_len 0 (length rows) in
        let at = get_or-range_with_len 0 (length rows) index 0 (omega (arith, within)) in
        let back : place_of (get_or indices index 0) ≡ place = omega (arith, at, within) in
        any_of (number place) indices index (omega (arith, within, long)) (ap (ends_run values rows) back ∙ last)
        (ap (λ p. same_number (number p) (number place)) back ∙ itself (number place))

    reach : (more place : ℕ) → place + more + 1 ≡ length rows → list_any (λ x. same_number x (number place)) numbers ≡ true
    reach zero place far =
        let last : (place + 1 == length rows) ≡ true = eq-eqb (place + 1) (length rows) (omega (arith, far)) in
        met_at place (omega (arith, far)) (ap (λ b. b || not (same_number (number place) (number (place + 1)))) last)
    reach (suc more) place far = elim (cases_Bool (ends_run values rows place)) [
      | inl last ↦ met_at place (omega (arith, far)) last
      | inr further ↦
          let same : number place ≡ number (place + 1) = same_is (number place) (number (place + 1))
          (second_false (place + 1 == length rows) (same_number (number place) (number (place + 1))) further) in
          ap (λ v. list_any (λ x. same_number x v) numbers) same ∙ reach more (place + 1) (omega (arith, far))
    ]

    met : All (λ row. list_any (λ x. same_number x (get_or values row None)) numbers ≡ true) rows
    met i d h = ap (λ v. list_any (λ x. same_number x v) numbers) (number_is values rows i d h)
        ∙ reach (length rows - 1 - i) i (omega (arith, h))

    -- ---- the runs

    abbrev runs : List ℕ
    runs = flat_map group numbers

    ties : AllPairs (λ a b. get_or values a None ≡ get_or values b None → a < b) rows
    ties i j d p q same =
        let a = get_or rows i d in
        let b = get_or rows j d in
        let tie : missing_last int_cmp (get_or values a None) (get_or values b None) ≡ Equal =
        ap (missing_last int_cmp (get_or values a None)) (sym same)
        ∙ tied_itself (missing_total int_cmp int_cmp_total) (get_or values a None) in
        lower_first (missing_last int_cmp (get_or values a None) (get_or values b None)) a b (rising i j d p q) tie

    all_runs : IsPermutation rows runs
    all_runs = groups_are_all (turned int_cmp) (turned_total int_cmp int_cmp_total) same_number same_is values rows numbers numbers_fall met

    runs_fall : AllPairs (FollowsIn values) runs
    runs_fall = groups_rise (turned int_cmp) (turned_total int_cmp int_cmp_total) same_number same_is values rows ties numbers numbers_fall

    module _ (missing : List ℕ) where
      abbrev falling : List ℕ
      falling = flat_map (λ part. part) (parts_from_end values rows missing)

      falling_is : falling ≡ runs ++ missing
      falling_is =
          flat_map-append (λ part. part) (map (part_of_place values rows missing) indices) (missing ∷ [])
          ∙ ap (λ l. flat_map (λ part. part) (map (part_of_place values rows missing) indices) ++ l) (append-nil missing)
          ∙ ap (λ l. l ++ missing) (flat_map-map (λ part. part) (part_of_place values rows missing) indices ∙ runs_are_groups indices)

      pub falling_all : IsPermutation (rows ++ missing) falling
      falling_all = subst (IsPermutation (rows ++ missing)) (sym falling_is) (IsPermutation-append_left missing rows runs all_runs)

      module _ (without : All (λ row. get_or values row None ≡ None) missing)
          (stand : AllPairs (λ a b. row_before int_cmp values a b ≡ true) missing) where
        behind_run : (a b : ℕ) → is_some (get_or values a None) ≡ true → get_or values b None ≡ None → FollowsIn values a b
        behind_run a b h e = ap (λ v. is_lt (ordering_then (missing_last (turned int_cmp) (get_or values a None) v) (nat_cmp a b))) e
            ∙ by (get_or values a None) h
          where
            by : (v : Option ℤ) → is_some v ≡ true → is_lt (ordering_then (missing_last (turned int_cmp) v None) (nat_cmp a b)) ≡ true
            by (Some n) f = refl
            by None f = absurd (true≢false (sym f))

        missing_stand : AllPairs (FollowsIn values) missing
        missing_stand i j d p q =
            let a = get_or missing i d in
            let b = get_or missing j d in
            let e : get_or values a None ≡ None = without i d (omega (arith, p, q)) in
            let f : get_or values b None ≡ None = without j d q in
            let up : is_lt (nat_cmp a b) ≡ true = ap (λ v. is_lt (ordering_then (missing_last int_cmp v None) (nat_cmp a b))) (sym e)
            ∙ ap (λ v. is_lt (ordering_then (missing_last int_cmp (get_or values a None) v) (nat_cmp a b))) (sym f) ∙ stand i j d p q in
            ap (λ v. is_lt (ordering_then (missing_last (turned int_cmp) v (get_or values b None)) (nat_cmp a b))) e
            ∙ ap (λ v. is_lt (ordering_then (missing_last (turned int_cmp) None v) (nat_cmp a b))) f ∙ up

        runs_numbered : AllByRecursion (λ row. is_some (get_or values row None) ≡ true) runs
        runs_numbered = recursion_from_All (λ row. is_some (get_or values row None) ≡ true) runs
            (All-permutation (λ row. is_some (get_or values row None) ≡ true) rows runs all_runs numbered)

        pub falling_stands : AllPairs (FollowsIn values) falling
        falling_stands = subst (AllPairs (FollowsIn values)) (sym falling_is) (all_pairs (FollowsIn values) (runs ++ missing)
            (pairs_append (FollowsIn values) runs missing (each_pair (FollowsIn values) runs runs_fall)
            (each_pair (FollowsIn values) missing missing_stand)
            (All-weaken (λ a. is_some (get_or values a None) ≡ true) (λ a. AllByRecursion (FollowsIn values a) missing)
            (λ a h. All-weaken (λ b. get_or values b None ≡ None) (FollowsIn values a) (λ b e. behind_run a b h e) missing
            (recursion_from_All (λ b. get_or values b None ≡ None) missing without)) runs runs_numbered)))

-- ---- one order alone

module _ (R : ℕ → ℕ → Type 0) (apart : (a b : ℕ) → R a b → R b a → ⊥) where
  among_behind : (x k : ℕ) (ys : List ℕ) → AllByRecursion (R x) ys → is_among ys k ≡ true → R x k
  among_behind x k [] a e = absurd (true≢false (sym e))
  among_behind x k (y ∷ ys) a e = elim (cases_Bool (y == k)) [
    | inl same ↦ subst (R x) (eqb-true y k same) a.0
    | inr other ↦ among_behind x k ys a.1 (ap (λ b. b || is_among ys k) (sym other) ∙ e)
  ]

  not_among : (x : ℕ) (ys : List ℕ) → AllByRecursion (R x) ys → is_among ys x ≡ false
  not_among x ys a = elim (cases_Bool (is_among ys x)) [
    | inl e ↦ let itself : R x x = among_behind x x ys a e in absurd (apart x x itself itself)
    | inr e ↦ e
  ]

  differ : (a b : ℕ) → (a ≡ b → ⊥) → (a == b) ≡ false
  differ a b h = elim (cases_Bool (a == b)) [
    | inl e ↦ absurd (h (eqb-true a b e))
    | inr e ↦ e
  ]

  first_same : (x y : ℕ) (xs ys : List ℕ) → AllByRecursion (R x) xs → AllByRecursion (R y) ys
      → ((k : ℕ) → is_among (x ∷ xs) k ≡ is_among (y ∷ ys) k) → x ≡ y
  first_same x y xs ys a b same = elim (cases_eq x y) [
    | inl e ↦ e
    | inr other ↦
        let in_ys : is_among ys x ≡ true = ap (λ c. c || is_among ys x) (sym (differ y x (λ e. other (sym e)))) ∙ sym (same x)
        ∙ ap (λ c. c || is_among xs x) (eq-eqb x x refl) in
        let in_xs : is_among xs y ≡ true = ap (λ c. c || is_among xs y) (sym (differ x y other)) ∙ same y
        ∙ ap (λ c. c || is_among ys y) (eq-eqb y y refl) in
        absurd (apart y x (among_behind y x ys b in_ys) (among_behind x y xs a in_xs))
  ]

  rest_same : (x y : ℕ) (xs ys : List ℕ) (k : ℕ) → AllByRecursion (R x) xs → AllByRecursion (R y) ys → x ≡ y
      → is_among (x ∷ xs) k ≡ is_among (y ∷ ys) k → is_among xs k ≡ is_among ys k
  rest_same x y xs ys k a b e same = elim (cases_Bool (x == k)) [
    | inl here ↦
        subst (λ (m : ℕ). is_among xs m ≡ is_among ys m) (eqb-true x k here)
        (not_among x xs a ∙ sym (subst (λ (m : ℕ). is_among ys m ≡ false) (sym e) (not_among y ys b)))
    | inr other ↦
        ap (λ c. c || is_among xs k) (sym other) ∙ same ∙ ap (λ (m : ℕ). (m == k) || is_among ys k) (sym e)
        ∙ ap (λ c. c || is_among ys k) other
  ]

  -- rows have one such order
  one_order : (xs ys : List ℕ) → EachPair R xs → EachPair R ys → ((k : ℕ) → is_among xs k ≡ is_among ys k) → xs ≡ ys
  one_order [] [] a b same = refl
  one_order [] (y ∷ ys) a b same = absurd (true≢false (sym (ap (λ c. c || is_among ys y) (eq-eqb y y refl)) ∙ sym (same y)))
  one_order (x ∷ xs) [] a b same = absurd (true≢false (sym (ap (λ c. c || is_among xs x) (eq-eqb x x refl)) ∙ same x))
  one_order (x ∷ xs) (y ∷ ys) a b same =
      let e = first_same x y xs ys a.0 b.0 same in
      let rest = one_order xs ys a.1 b.1 (λ k. rest_same x y xs ys k a.0 b.0 e (same k)) in
      λ i. e i ∷ rest i

-- ---- of all rows

module _ (values : List (Option ℤ)) (order : List ℕ) (is : IsOrderBy int_cmp values order) where
  abbrev has_some_at : ℕ → Bool
  has_some_at row = is_some (get_or values row None)

  is_none : (row : ℕ) → not (has_some_at row) ≡ true → get_or values row None ≡ None
  is_none row h = by (get_or values row None) h
    where
      by : (v : Option ℤ) → not (is_some v) ≡ true → v ≡ None
      by (Some n) e = absurd (true≢false (sym e))
      by None e = refl

  abbrev numbered_rows : List ℕ
  numbered_rows = filter has_some_at order

  abbrev missing_rows : List ℕ
  missing_rows = filter (λ row. not (has_some_at row)) order

  pub falling_order : IsOrderBy (turned int_cmp) values (flat_map (λ part. part) (parts_from_end values numbered_rows missing_rows))
  falling_order =
      let up = AllPairs-filter (λ a b. row_before int_cmp values a b ≡ true) has_some_at order is.rising in
      let stand = AllPairs-filter (λ a b. row_before int_cmp values a b ≡ true) (λ row. not (has_some_at row)) order is.rising in
      let numbered = filter_passes has_some_at order in
      let without = All-from_recursion (λ row. get_or values row None ≡ None) missing_rows
      (All-weaken (λ row. not (has_some_at row) ≡ true) (λ row. get_or values row None ≡ None) is_none missing_rows
      (recursion_from_All (λ row. not (has_some_at row) ≡ true) missing_rows (filter_passes (λ row. not (has_some_at row)) order))) in
      let all = flat_map (λ part. part) (parts_from_end values numbered_rows missing_rows) in
      record {
        rows = IsPermutation-trans (range_with_len 0 (length values)) order all is.rows
            (IsPermutation-trans order (numbered_rows ++ missing_rows) all
            (IsPermutation-filter_both has_some_at (λ row. not (has_some_at row)) (λ row. refl) order)
            (falling_all values numbered_rows up numbered missing_rows));
        rising = falling_stands values numbered_rows up numbered missing_rows without stand;
      }

  -- ---- with a number first

  earlier : (a b : Option ℤ) (m n : ℕ) → is_lt (ordering_then (missing_last int_cmp a b) (nat_cmp m n)) ≡ true → is_some b ≡ true
      → is_some a ≡ true
  earlier (Some x) b m n e h = refl
  earlier None (Some y) m n e h = absurd (true≢false (sym e))
  earlier None None m n e h = h

  pub parted_numbers : IsPartitionedBy has_some_at order
  parted_numbers i j d le lt e = elim (cases_eq i j) [
    | inl same ↦ ap (λ k. has_some_at (get_or order k d)) same ∙ e
    | inr apart ↦
        let a = get_or order i d in
        let b = get_or order j d in
        earlier (get_or values a None) (get_or values b None) a b (is.rising i j d (omega (arith, le, apart)) lt) e
  ]

  pub rows_many : length order ≡ length values
  rows_many = length_permutation (range_with_len 0 (length values)) order is.rows ∙ length-range_with_len 0 (length values)

  -- the rows that have a number
  pub numbers_rise : (n : ℕ) → n ≤ length order → IsPartitionPoint (λ row. has_some_at row ≡ true) (λ row. has_some_at row ≡ false) order n
      → AllPairs (λ a b. row_before int_cmp values a b ≡ true) (take n order)
  numbers_rise n bound point =
      subst (AllPairs (λ a b. row_before int_cmp values a b ≡ true)) (sym (kept_front has_some_at order n bound point))
      (AllPairs-filter (λ a b. row_before int_cmp values a b ≡ true) has_some_at order is.rising)

  -- the order that is split where its numbers end
  pub falling_split : (n : ℕ) → n ≤ length order → IsPartitionPoint (λ row. has_some_at row ≡ true) (λ row. has_some_at row ≡ false) order n
      → IsOrderBy (turned int_cmp) values (flat_map (λ part. part) (parts_from_end values (take n order) (drop n order)))
  falling_split n bound point =
      let front : take n order ≡ numbered_rows = kept_front has_some_at order n bound point in
      let back : drop n order ≡ missing_rows = kept_back has_some_at order n bound point in
      subst (λ parts. IsOrderBy (turned int_cmp) values (flat_map (λ part. part) parts))
      (sym (λ i. parts_from_end values (front i) (back i))) falling_order

-- ---- of a range

module _ (values : List (Option ℤ)) (test : Option ℤ → Bool) (without : test None ≡ false) (rows : List ℕ)
    (is : IsOrderWhere int_cmp test values rows) where
  abbrev passes : ℕ → Bool
  passes row = test (get_or values row None)

  pub range_rises : AllPairs (λ a b. row_before int_cmp values a b ≡ true) rows
  range_rises = subst (AllPairs (λ a b. row_before int_cmp values a b ≡ true)) (sym is.passed)
      (AllPairs-filter (λ a b. row_before int_cmp values a b ≡ true) passes is.order is.all.rising)

  some_passed : (v : Option ℤ) → test v ≡ true → is_some v ≡ true
  some_passed (Some n) e = refl
  some_passed None e = absurd (true≢false (sym e ∙ without))

  range_numbered : All (λ row. is_some (get_or values row None) ≡ true) rows
  range_numbered = subst (All (λ row. is_some (get_or values row None) ≡ true)) (sym is.passed)
      (λ i d h. some_passed (get_or values (get_or (filter passes is.order) i d) None) (filter_passes passes is.order i d h))

  abbrev whole : List ℕ
  whole = flat_map (λ part. part) (parts_from_end values (numbered_rows values is.order is.all) (missing_rows values is.order is.all))

  abbrev range : List ℕ
  range = flat_map (λ part. part) (parts_from_end values rows [])

  whole_order : IsOrderBy (turned int_cmp) values whole
  whole_order = falling_order values is.order is.all

  range_all : IsPermutation (rows ++ []) range
  range_all = falling_all values rows range_rises range_numbered []

  range_stands : AllPairs (FollowsIn values) range
  range_stands = falling_stands values rows range_rises range_numbered [] (λ i d h. absurd (omega (arith, h)))
      (λ i j d p q. absurd (omega (arith, q)))

  same_rows : (k : ℕ) → is_among range k ≡ is_among (filter passes whole) k
  same_rows k =
      let is_k : ℕ → Bool = λ row. row == k in
      let every = range_with_len 0 (length values) in
      sym (list_any-IsPermutation is_k (rows ++ []) range range_all) ∙ ap (λ l. is_among l k) (append-nil rows ∙ is.passed)
      ∙ among_filter passes is.order k
      ∙ ap (λ b. passes k && b)
      (sym (list_any-IsPermutation is_k every is.order is.all.rows) ∙ list_any-IsPermutation is_k every whole whole_order.rows)
      ∙ sym (among_filter passes whole k)

  one_way : (a b : ℕ) → FollowsIn values a b → FollowsIn values b a → ⊥
  one_way a b p q = true≢false (sym q ∙ (row_ranks (turned int_cmp) (turned_total int_cmp int_cmp_total) values).one_way a b p)

  -- the rows of a range fall as they do among all rows
  pub falling_range : IsOrderWhere (turned int_cmp) test values range
  falling_range =
      let picked = AllPairs-filter (FollowsIn values) passes whole whole_order.rising in
      record {
        order = whole;
        all = whole_order;
        passed = one_order (FollowsIn values) one_way range (filter passes whole) (each_pair (FollowsIn values) range range_stands)
            (each_pair (FollowsIn values) (filter passes whole) picked) same_rows;
      }
