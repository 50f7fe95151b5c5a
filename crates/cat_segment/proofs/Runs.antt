-- Rows in rising order of their numbers: where the rows with one number begin and end, and which part they are from the end.
use Rattle.std.proofs.Common.{◌≡◌, ◌<◌, ◌≤◌, ◌+◌, ◌-◌, ◌==◌, ◌||◌, ◌++◌, ◌∷◌, [], inl, inr, ℕ, ℤ, zero, suc, Bool, true, false, not}
use Rattle.std.proofs.Common.{cond, List, length, map, filter, get_or, take, drop, Option, Some, None, AllPairs, refl, sym, ap, ap₂, subst, ◌∙◌}
use Rattle.std.proofs.Common.{arith, append-nil}
use Rattle.std.specs.Prelude.{IfSome, slice_get}
use Rattle.std.specs.Cmp.{signed_Decides, tied_itself}
use Rattle.std.specs.List.{flat_map, range_with_len}
use Rattle.std.specs.List.Sorted.{IsPartitionPoint, IsPartitionedBy}
use Rattle.std.specs.declared.cmp.Ordering.{Ordering}
use Rattle.std.specs.declared.cmp.Ordering.TheVariants.{Less, Equal, Greater}
use Rattle.std.specs.Ordering.{int_cmp, is_eq, is_lt, nat_cmp, ordering_reverse, ordering_then}
use Rattle.std.proofs.Math.Bool.{or-true}
use Rattle.std.proofs.lemmas.Bool.{true≢false, cases_Bool, cases_eq, cases_lt, eq-eqb, eqb-true}
use Rattle.std.proofs.lemmas.Cmp.{int_cmp_total}
use Rattle.std.proofs.lemmas.Grind.{flat_map-append}
use Rattle.std.proofs.lemmas.List.{append_assoc, get_or-take, get_or-drop, get_or-map, get_or_append_left, get_or_default, length-append}
use Rattle.std.proofs.lemmas.List.{length-drop, length-map, length-take-le, map-id, take-append-le, take_more}
use Rattle.std.proofs.lemmas.List.Elements.{filter_agree, filter_more}
use Rattle.std.proofs.lemmas.List.Folds.{flat_map-map}
use Rattle.std.proofs.lemmas.List.FromFn.{get_or-range_with_len, length-range_with_len, map-range_with_len_more, take-map-range_with_len}
use Rattle.std.proofs.Math.Seq.{get_or-append_seam}
use Rattle.cat_segment.specs.NumberRuns.{EndsRunOf, changes_behind, ends_run, number_at_place, parts_from_end, run_at, run_through, same_number}
use Rattle.cat_segment.specs.Orders.{missing_last, row_before}
use Rattle.cat_segment.specs.RowParts.{EndsIn, rows_of_runs}
use Rattle.cat_segment.specs.declared.number_runs.NumberRuns.{NumberRuns}
use Rattle.cat_segment.proofs.Ranged.{kept_back}
use Rattle.cat_segment.proofs.RowOrders.{missing_total}

-- ---- numbers

pub same_is : (a b : Option ℤ) → same_number a b ≡ true → a ≡ b
same_is (Some a) (Some b) e = ap Some ((signed_Decides a b).0 e)
same_is (Some a) None e = absurd (true≢false (sym e))
same_is None (Some b) e = absurd (true≢false (sym e))
same_is None None e = refl

pub itself : (a : Option ℤ) → same_number a a ≡ true
itself (Some a) = (signed_Decides a a).1 refl
itself None = refl

is_same : (a b : Option ℤ) → a ≡ b → same_number a b ≡ true
is_same a b e = ap (same_number a) (sym e) ∙ itself a

pub apart_turned : (a b : Option ℤ) → same_number a b ≡ false → same_number b a ≡ false
apart_turned a b e = elim (cases_Bool (same_number b a)) [
  | inl met ↦ absurd (true≢false (sym (is_same a b (sym (same_is b a met))) ∙ e))
  | inr apart ↦ apart
]

pub tied_is : (a b : Option ℤ) → missing_last int_cmp a b ≡ Equal → a ≡ b
tied_is (Some a) (Some b) e = ap Some ((signed_Decides a b).0 (ap is_eq e))
tied_is (Some a) None e = absurd (cc)
tied_is None (Some b) e = absurd (cc)
tied_is None None e = refl

-- where neither is above the other they are one
level : (a b : Option ℤ) → (missing_last int_cmp a b ≡ Greater → ⊥) → (missing_last int_cmp b a ≡ Greater → ⊥) → a ≡ b
level a b one other = by (missing_last int_cmp a b) refl
  where
    by : (o : Ordering) → missing_last int_cmp a b ≡ o → a ≡ b
    by Less e = absurd (other ((missing_total int_cmp int_cmp_total).antisymm b a ∙ ap ordering_reverse e))
    by Equal e = tied_is a b e
    by Greater e = absurd (one e)

not_over : (o : Ordering) (a b : ℕ) → is_lt (ordering_then o (nat_cmp a b)) ≡ true → o ≡ Greater → ⊥
not_over Less a b e g = absurd (cc)
not_over Equal a b e g = absurd (cc)
not_over Greater a b e g = absurd (cc)

not_not : (b : Bool) → not (not b) ≡ b
not_not true = refl
not_not false = refl

not_last : (a b : ℕ) → a < b → (a == b) ≡ false
not_last a b h = elim (cases_Bool (a == b)) [
  | inl e ↦ let same : a ≡ b = eqb-true a b e in absurd (omega (arith, same, h))
  | inr e ↦ e
]

-- ---- the last of a list

last_at : (rows : List ℕ) (n : ℕ) (row : ℕ) → length rows ≡ suc n → slice_get rows n ≡ Some row → EndsIn rows row
last_at [] n row long e = absurd (omega (arith, long))
last_at (x ∷ []) zero row long e = let is : x ≡ row = cc in record { front = []; whole = ap (λ y. y ∷ []) is }
last_at (x ∷ []) (suc n) row long e = absurd (omega (arith, long))
last_at (x ∷ y ∷ ys) zero row long e = absurd (omega (arith, long))
last_at (x ∷ y ∷ ys) (suc n) row long e =
    let rest = last_at (y ∷ ys) n row (omega (arith, long)) e in
    record { front = x ∷ rest.front; whole = ap (λ l. x ∷ l) rest.whole }

last_of : (rows : List ℕ) (row : ℕ) → slice_get rows (length rows - 1) ≡ Some row → EndsIn rows row
last_of [] row e = absurd (cc)
last_of (x ∷ xs) row e =
    let step : length (x ∷ xs) - 1 ≡ length xs = omega arith in
    last_at (x ∷ xs) (length xs) row refl (ap (slice_get (x ∷ xs)) (sym step) ∙ e)

-- the last row of a part, if it has one, is the last one of the parts up to it
pub last_of_part : (parts : List (List ℕ)) (index : ℕ) (part : List ℕ) (row : Option ℕ) → index < length parts
    → part ≡ get_or parts index [] → row ≡ slice_get part (length part - 1)
    → IfSome row (EndsIn (flat_map (λ p. p) (take (index + 1) parts)))
last_of_part parts index part None within is e = tt
last_of_part parts index part (Some row) within is e =
    let end = last_of part row (sym e) in
    let before : List ℕ = flat_map (λ p. p) (take index parts) in
    let whole : flat_map (λ p. p) (take (index + 1) parts) ≡ before ++ part =
    ap (flat_map (λ p. p)) (take_more parts index [] within) ∙ flat_map-append (λ p. p) (take index parts) (get_or parts index [] ∷ [])
    ∙ ap (λ l. before ++ l) (append-nil (get_or parts index []) ∙ sym is) in
    record { front = before ++ end.front; whole = whole ∙ ap (λ l. before ++ l) end.whole ∙ sym (append_assoc before end.front (row ∷ [])) }

-- ---- rows in rising order

pub rises : (runs : NumberRuns) (rows : List ℕ) → rows ≡ rows_of_runs runs
    → AllPairs (λ a b. row_before int_cmp runs.numbers.now.values a b ≡ true) rows
rises runs rows is = subst (AllPairs (λ a b. row_before int_cmp runs.numbers.now.values a b ≡ true)) (sym is) runs.rising

-- a stretch of rows, and where among all of them its numbers change
module _ (values : List (Option ℤ)) (rows : List ℕ) (from to : ℕ) (ordered : from ≤ to) (within : to ≤ length rows) where
  pub length-stretch : length (drop from (take to rows)) ≡ to - from
  length-stretch = length-drop from (take to rows) ∙ ap (λ n. n - from) (length-take-le to rows within)

  number_in : (place : ℕ) → from + place < to → number_at_place values (drop from (take to rows)) place ≡ number_at_place values rows (from + place)
  number_in place lt = ap (λ r. get_or values r None) (get_or-drop from (take to rows) place 0 ∙ get_or-take to rows (from + place) 0 lt)

  pub changes_in : (place : ℕ) → place + 1 < length (drop from (take to rows))
      → changes_behind values rows (from + place) ≡ ends_run values (drop from (take to rows)) place
  changes_in place lt =
      let more : from + (place + 1) < to = omega (arith, lt, length-stretch) in
      let step : from + place + 1 ≡ from + (place + 1) = omega arith in
      let short = not_last (place + 1) (length (drop from (take to rows))) lt in
      let here = number_in place (omega (arith, more)) in
      let next = ap (number_at_place values rows) step ∙ sym (number_in (place + 1) more) in
      ap₂ (λ a b. not (same_number a b)) (sym here) next
      ∙ ap (λ b. b || changes_behind values (drop from (take to rows)) place) (sym short)

module _ (values : List (Option ℤ)) (rows : List ℕ) where
  abbrev number : ℕ → Option ℤ
  number place = number_at_place values rows place

  abbrev is_in : ℕ → ℕ → Bool
  is_in place row = same_number (number place) (get_or values row None)

  pub number_is : (place d : ℕ) → place < length rows → get_or values (get_or rows place d) None ≡ number place
  number_is place d h = ap (λ r. get_or values r None) (get_or_default rows place d 0 h)

  front_number : (n k d : ℕ) → k < n → k < length rows → get_or values (get_or (take n rows) k d) None ≡ number k
  front_number n k d h within = ap (λ r. get_or values r None) (get_or-take n rows k d h) ∙ number_is k d within

  pub back_number : (n k d : ℕ) → n + k < length rows → get_or values (get_or (drop n rows) k d) None ≡ number (n + k)
  back_number n k d within = ap (λ r. get_or values r None) (get_or-drop n rows k d) ∙ number_is (n + k) d within

  module _ (rising : AllPairs (λ a b. row_before int_cmp values a b ≡ true) rows) where
    pub not_above : (i j : ℕ) → i ≤ j → j < length rows → missing_last int_cmp (number i) (number j) ≡ Greater → ⊥
    not_above i j le within g = elim (cases_eq i j) [
      | inl same ↦
          let tie : missing_last int_cmp (number i) (number j) ≡ Equal = ap (λ k. missing_last int_cmp (number i) (number k)) (sym same)
          ∙ tied_itself (missing_total int_cmp int_cmp_total) (number i) in
          let no : Equal ≡ Greater = sym tie ∙ g in
          absurd (cc)
      | inr apart ↦ not_over (missing_last int_cmp (number i) (number j)) (get_or rows i 0) (get_or rows j 0)
          (rising i j 0 (omega (arith, le, apart)) within) g
    ]

    -- the rows between two with one number have it
    between : (i j k : ℕ) → i ≤ j → j ≤ k → k < length rows → number i ≡ number k → number j ≡ number k
    between i j k le le2 within same =
        level (number j) (number k) (not_above j k le2 within)
        (λ g. not_above i j le (omega (arith, le2, within)) (ap (λ x. missing_last int_cmp x (number j)) same ∙ g))

    -- ---- where a run begins

    abbrev differs : ℕ → ℕ → Bool
    differs place row = not (is_in place row)

    abbrev differ_at : ℕ → ℕ → Bool
    differ_at place other = not (same_number (number place) (number other))

    stays : (place i j : ℕ) → i ≤ j → j ≤ place → place < length rows → differ_at place j ≡ true → differ_at place i ≡ true
    stays place i j le le2 within e = elim (cases_Bool (same_number (number place) (number i))) [
      | inl met ↦
          let here : number j ≡ number place = between i j place le le2 within (sym (same_is (number place) (number i) met)) in
          absurd (true≢false (sym e ∙ ap not (is_same (number place) (number j) (sym here))))
      | inr apart ↦ ap not apart
    ]

    pub parted_front : (place : ℕ) → place < length rows → IsPartitionedBy (differs place) (take (place + 1) rows)
    parted_front place within i j d le lt e =
        let long = length-take-le (place + 1) rows (omega (arith, within)) in
        let at_i = front_number (place + 1) i d (omega (arith, le, lt, long)) (omega (arith, le, lt, long, within)) in
        let at_j = front_number (place + 1) j d (omega (arith, lt, long)) (omega (arith, lt, long, within)) in
        ap (λ v. not (same_number (number place) v)) at_i
        ∙ stays place i j le (omega (arith, lt, long)) within (ap (λ v. not (same_number (number place) v)) (sym at_j) ∙ e)

    abbrev Begins : ℕ → ℕ → Type 0
    Begins place start = IsPartitionPoint (λ y. differs place y ≡ true) (λ y. differs place y ≡ false) (take (place + 1) rows) start

    pub run_from : (place start : ℕ) → place < length rows → start ≤ place + 1 → Begins place start
        → drop start (take (place + 1) rows) ≡ run_through values rows place
    run_from place start within bound point =
        let long = length-take-le (place + 1) rows (omega (arith, within)) in
        kept_back (differs place) (take (place + 1) rows) start (omega (arith, bound, long)) point
        ∙ filter_agree (λ y. not (differs place y)) (is_in place) (λ y. not_not (is_in place y)) (take (place + 1) rows)

    last_in : (place k d : ℕ) → place < length rows → place ≤ k → k < length (take (place + 1) rows)
        → differs place (get_or (take (place + 1) rows) k d) ≡ false
    last_in place k d within le lt =
        let long = length-take-le (place + 1) rows (omega (arith, within)) in
        let here : k ≡ place = omega (arith, le, lt, long) in
        ap (λ v. not (same_number (number place) v))
        (front_number (place + 1) k d (omega (arith, lt, long)) (omega (arith, lt, long, within)) ∙ ap number here)
        ∙ ap not (itself (number place))

    pub first_alone : (place : ℕ) → place < length rows → place ≡ 0 → drop place (take (place + 1) rows) ≡ run_through values rows place
    first_alone place within first = run_from place place within (omega arith)
        ((λ k d low high. absurd (omega (arith, high, first))), (λ k d low high. last_in place k d within low high))

    pub row_alone : (place : ℕ) → place < length rows → 0 < place → same_number (number place) (number (place - 1)) ≡ false
        → drop place (take (place + 1) rows) ≡ run_through values rows place
    row_alone place within some apart = run_from place place within (omega arith) (
      (λ k d low high.
          ap (λ v. not (same_number (number place) v)) (front_number (place + 1) k d (omega (arith, high)) (omega (arith, high, within)))
          ∙ stays place k (place - 1) (omega (arith, high)) (omega (arith, some)) within (ap not apart)),
      (λ k d low high. last_in place k d within low high),
    )

    -- ---- where a run ends

    pub parted_back : (place : ℕ) → place < length rows → IsPartitionedBy (is_in place) (drop (place + 1) rows)
    parted_back place within i j d le lt e =
        let long = length-drop (place + 1) rows in
        let at_i = back_number (place + 1) i d (omega (arith, le, lt, long)) in
        let at_j = back_number (place + 1) j d (omega (arith, lt, long)) in
        let there : number place ≡ number (place + 1 + j) = same_is (number place) (number (place + 1 + j))
        (ap (same_number (number place)) (sym at_j) ∙ e) in
        let here : number (place + 1 + i) ≡ number (place + 1 + j) = between place (place + 1 + i) (place + 1 + j) (omega arith)
        (omega (arith, le)) (omega (arith, lt, long)) there in
        ap (same_number (number place)) at_i ∙ is_same (number place) (number (place + 1 + i)) (there ∙ sym here)

    pub run_ends : (place n : ℕ) → place < length rows → n ≤ length (drop (place + 1) rows)
        → IsPartitionPoint (λ y. is_in place y ≡ true) (λ y. is_in place y ≡ false) (drop (place + 1) rows) n
        → EndsRunOf values rows place (place + n)
    run_ends place n within bound point =
        record {
          behind = omega arith;
          within = omega (arith, within, bound, long);
          last = last;
          same = is_same (number place)
              (number (place + n)) here;
        }
      where
        long : length (drop (place + 1) rows) ≡ length rows - (place + 1)
        long = length-drop (place + 1) rows

        here : number place ≡ number (place + n)
        here = elim (cases_eq n 0) [
          | inl none ↦ let at : place ≡ place + n = omega (arith, none) in ap number at
          | inr some ↦
              let at = back_number (place + 1) (n - 1) 0 (omega (arith, some, bound, long, within)) in
              let step : place + 1 + (n - 1) ≡ place + n = omega (arith, some) in
              same_is (number place) (number (place + n))
              (ap (same_number (number place)) (ap number (sym step) ∙ sym at) ∙ point.0 (n - 1) 0 (omega arith) (omega (arith, some)))
        ]

        last : ends_run values rows (place + n) ≡ true
        last = elim (cases_lt n (length (drop (place + 1) rows))) [
          | inl more ↦
              let at = back_number (place + 1) n 0 (omega (arith, more, long)) in
              let step : place + 1 + n ≡ place + n + 1 = omega arith in
              let apart : same_number (number (place + n)) (number (place + n + 1)) ≡ false =
              ap (λ v. same_number v (number (place + n + 1))) (sym here) ∙ ap (same_number (number place)) (ap number (sym step) ∙ sym at)
              ∙ point.1 n 0 (omega arith) more in
              ap (λ b. (place + n + 1 == length rows) || not b) apart ∙ or-true (place + n + 1 == length rows)
          | inr all ↦
              let at : (place + n + 1 == length rows) ≡ true = eq-eqb (place + n + 1) (length rows)
              (omega (arith, all, bound, long, within)) in
              ap (λ b. b || not (same_number (number (place + n)) (number (place + n + 1)))) at
        ]

    -- behind the end of a run stands another number
    pub later_differs : (place j : ℕ) → place < j → j < length rows → ends_run values rows place ≡ true
        → same_number (number place) (number j) ≡ false
    later_differs place j lt within ends = elim (cases_Bool (same_number (number place) (number j))) [
      | inl met ↦
          let there : number place ≡ number j = same_is (number place) (number j) met in
          let next : number (place + 1) ≡ number j = between place (place + 1) j (omega arith) (omega (arith, lt)) within there in
          let short : (place + 1 == length rows) ≡ false = not_last (place + 1) (length rows) (omega (arith, lt, within)) in
          absurd (true≢false (sym ends ∙ ap (λ b. b || not (same_number (number place) (number (place + 1)))) short
          ∙ ap not (is_same (number place) (number (place + 1)) (there ∙ sym next))))
      | inr apart ↦ apart
    ]

    -- before the end of a run no place is one
    inner : (place q end : ℕ) → EndsRunOf values rows place end → place ≤ q → q < end → ends_run values rows q ≡ false
    inner place q end is le lt =
        let same : number place ≡ number end = same_is (number place) (number end) is.same in
        let here : number q ≡ number end = between place q end le (omega (arith, lt)) is.within same in
        elim (cases_Bool (ends_run values rows q)) [
          | inl ends ↦ absurd (true≢false (sym (is_same (number q) (number end) here) ∙ later_differs q end lt is.within ends))
          | inr other ↦ other
        ]

    -- ---- the parts

    abbrev part_for : ℕ → List ℕ
    part_for index = run_at values rows (length rows - 1 - index)

    ends_in_run : (end : ℕ) → end < length rows → ends_run values rows end ≡ true → EndsIn (run_at values rows end) (get_or rows end 0)
    ends_in_run end within ends =
        let itself_in : is_in end (get_or rows end 0) ≡ true = itself (number end) in
        record {
          front = filter (is_in end) (take end rows);
          whole = ap (λ b. cond b (run_through values rows end) []) ends ∙ filter_more (is_in end) rows end 0 within
              ∙ ap (λ b. filter (is_in end) (take end rows) ++ cond b (get_or rows end 0 ∷ []) []) itself_in;
        }

    range_more : (n : ℕ) → range_with_len 0 (n + 1) ≡ range_with_len 0 n ++ n ∷ []
    range_more n = sym (map-id (range_with_len 0 (n + 1))) ∙ map-range_with_len_more (λ k. k) 0 n n (omega arith)
        ∙ ap (λ l. l ++ n ∷ []) (map-id (range_with_len 0 n))

    parts_more : (n : ℕ) → flat_map part_for (range_with_len 0 (n + 1)) ≡ flat_map part_for (range_with_len 0 n) ++ part_for n
    parts_more n =
        ap (flat_map part_for) (range_more n) ∙ flat_map-append part_for (range_with_len 0 n) (n ∷ [])
        ∙ ap (λ l. flat_map part_for (range_with_len 0 n) ++ l) (append-nil (part_for n))

    ends_after : (place end : ℕ) → EndsRunOf values rows place end → (more : ℕ) → more + place ≤ end
        → EndsIn (flat_map part_for (range_with_len 0 (length rows - 1 - end + 1 + more))) (get_or rows end 0)
    ends_after place end is zero le =
        let index = length rows - 1 - end in
        let at : length rows - 1 - index ≡ end = omega (arith, is.within) in
        let step : index + 1 + 0 ≡ index + 1 = omega arith in
        let run = ends_in_run end is.within is.last in
        let before : List ℕ = flat_map part_for (range_with_len 0 index) in
        record {
          front = before ++ run.front;
          whole = ap (λ n. flat_map part_for (range_with_len 0 n)) step ∙ parts_more index ∙ ap (λ p. before ++ run_at values rows p) at
              ∙ ap (λ l. before ++ l) run.whole ∙ sym (append_assoc before run.front (get_or rows end 0 ∷ []));
        }
    ends_after place end is (suc more) le =
        let n = length rows - 1 - end + 1 + more in
        let step : length rows - 1 - end + 1 + suc more ≡ n + 1 = omega arith in
        let none : ends_run values rows (length rows - 1 - n) ≡ false = inner place (length rows - 1 - n) end is
        (omega (arith, le, is.within)) (omega (arith, le, is.within)) in
        let before : List ℕ = flat_map part_for (range_with_len 0 n) in
        let rest = ends_after place end is more (omega (arith, le)) in
        record {
          front = rest.front;
          whole = ap (λ k. flat_map part_for (range_with_len 0 k)) step ∙ parts_more n
              ∙ ap (λ b. before ++ cond b (run_through values rows (length rows - 1 - n)) []) none ∙ append-nil before ∙ rest.whole;
        }

    module _ (missing : List ℕ) where
      abbrev parts : List (List ℕ)
      parts = parts_from_end values rows missing

      -- the parts up to a place end in the last row of the run that the place is in
      pub ends_through : (index end : ℕ) → index < length rows → EndsRunOf values rows (length rows - 1 - index) end
          → EndsIn (flat_map (λ p. p) (take (index + 1) parts)) (get_or rows end 0)
      ends_through index end within is =
          let places = range_with_len 0 (length rows) in
          let long : length (map part_for places) ≡ length rows = length-map places part_for ∙ length-range_with_len 0 (length rows) in
          let first : take (index + 1) parts ≡ map part_for (range_with_len 0 (index + 1)) =
          take-append-le (index + 1) (map part_for places) (missing ∷ []) (omega (arith, long, within))
          ∙ take-map-range_with_len part_for 0 (length rows) (index + 1) (omega (arith, within)) in
          let more = end - (length rows - 1 - index) in
          let many : length rows - 1 - end + 1 + more ≡ index + 1 = omega (arith, within, is.behind, is.within) in
          let whole : flat_map (λ p. p) (take (index + 1) parts) ≡ flat_map part_for (range_with_len 0 (length rows - 1 - end + 1 + more)) =
          ap (flat_map (λ p. p)) first ∙ flat_map-map (λ p. p) part_for (range_with_len 0 (index + 1))
          ∙ ap (λ n. flat_map part_for (range_with_len 0 n)) (sym many) in
          subst (λ l. EndsIn l (get_or rows end 0)) (sym whole)
          (ends_after (length rows - 1 - index) end is more (omega (arith, is.behind)))

module _ (values : List (Option ℤ)) (rows missing : List ℕ) where
  abbrev pub part_of_place : ℕ → List ℕ
  part_of_place index = run_at values rows (length rows - 1 - index)

  abbrev indices : List ℕ
  indices = range_with_len 0 (length rows)

  many_places : length (map part_of_place indices) ≡ length rows
  many_places = length-map indices part_of_place ∙ length-range_with_len 0 (length rows)

  pub length-parts : length (parts_from_end values rows missing) ≡ length rows + 1
  length-parts = length-append (map part_of_place indices) (missing ∷ []) ∙ ap (λ n. n + 1) many_places

  pub part_at : (index : ℕ) → index < length rows
      → get_or (parts_from_end values rows missing) index [] ≡ run_at values rows (length rows - 1 - index)
  part_at index within =
      let at = get_or-range_with_len 0 (length rows) index 0 within in
      let here : get_or indices index 0 ≡ index = omega (arith, at) in
      get_or_append_left (map part_of_place indices) (missing ∷ []) [] index (omega (arith, within, many_places))
      ∙ get_or-map part_of_place indices index 0 [] (omega (arith, within, length-range_with_len 0 (length rows))) ∙ ap part_of_place here

  pub part_behind : (index : ℕ) → index ≡ length rows → get_or (parts_from_end values rows missing) index [] ≡ missing
  part_behind index e = ap (λ n. get_or (parts_from_end values rows missing) n []) (e ∙ sym many_places)
      ∙ get_or-append_seam (map part_of_place indices) missing [] []
