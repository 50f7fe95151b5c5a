-- Lists that rise: how they are tested, and that postings are rows that rise.
use Rattle.std.proofs.Common.{◌≡◌, ℕ, ◌+◌, ◌<◌, ◌≤◌, List, [], ◌∷◌, length, get_or, ◌-◌, Some, Bool, true, false, IsTrue, inl, inr, refl, sym, ap, ◌∙◌, arith, Ordering, Less, Equal, Greater, nat_cmp, subst}
use Rattle.std.proofs.lemmas.Bool.{true≢false, cases_lt}
use Rattle.std.proofs.lemmas.Bool.Decides.{nat_tests}
use Rattle.std.proofs.lemmas.List.Elements.{All-from_recursion, All-from_get_or}
use Rattle.std.proofs.lemmas.List.Folds.{list_any_none}
use Rattle.std.proofs.lemmas.List.FromFn.{length-range_with_len, get_or-range_with_len}
use Rattle.std.proofs.lemmas.List.Kept.{IsStrictlySortedBy-filter}
use Rattle.std.proofs.lemmas.Option.{get_or_from_slice_get, slice_get_within}
use Rattle.std.proofs.lemmas.Map.Keys.{sorted_from_all_adjacent, Less-from_sorted, below_from_sorted}
use Rattle.std.proofs.lemmas.Map.Lookups.{btree_set_from_contains, exact_unsigned}
use Rattle.std.specs.BTreeMap.{is_at}
use Rattle.std.specs.Cmp.{IsTotalOrder, nat_cmp_total, nat_cmp_is}
use Rattle.std.specs.List.{list_any, filter, range_with_len, slice_get, IsAllAdjacentAnswer}
use Rattle.std.specs.List.Sorted.{IsStrictlySortedBy}
use Rattle.std.specs.Ordering.{is_lt}
use Rattle.std.specs.Prelude.{All, ◌↔◌, ◌==◌}
use Rattle.cat_columns.specs.inverted.Postings.{is_among, IsPostings, IsPart}
use Rattle.cat_columns.proofs.inverted.Rows.{among_kept, kept_below}

is_less : (r : Ordering) → is_lt r ≡ true → r ≡ Less
is_less Less e = refl
is_less Equal e = absurd (true≢false (sym e))
is_less Greater e = absurd (true≢false (sym e))

-- what a test of each element and the next answers
pub rising_from_answer : {K : Type 0} {R : K → K → Ordering} → IsTotalOrder R → (xs : List K) (d : K) (r : Bool) → IsAllAdjacentAnswer (λ x y b. b ≡ is_lt (R x y)) xs r → IsTrue r ↔ IsStrictlySortedBy R xs
rising_from_answer total xs d true h = (λ _. sorted_from_all_adjacent total xs d (λ k lt. is_less _ (sym (h k d lt))), λ _. refl)
rising_from_answer {K} {R} total xs d false h = (
  λ e. absurd (true≢false (sym e)),
  λ sorted. absurd (true≢false (sym (ap is_lt (Less-from_sorted R xs h.0 (h.0 + 1) d sorted (omega arith) h.1)) ∙ sym (h.2 d))),
)

range_rises : (a n : ℕ) → IsStrictlySortedBy nat_cmp (range_with_len a n)
range_rises a n = sorted_from_all_adjacent nat_cmp_total (range_with_len a n) 0 less
  where
    less : (k : ℕ) → k + 1 < length (range_with_len a n) → nat_cmp (get_or (range_with_len a n) k 0) (get_or (range_with_len a n) (k + 1) 0) ≡ Less
    less k lt =
        let inside : k + 1 < n = omega (arith, length-range_with_len a n) in
        let here : get_or (range_with_len a n) k 0 ≡ a + k = get_or-range_with_len a n k 0 (omega arith) in
        let next : get_or (range_with_len a n) (k + 1) 0 ≡ a + (k + 1) = get_or-range_with_len a n (k + 1) 0 inside in
        let under : get_or (range_with_len a n) k 0 < get_or (range_with_len a n) (k + 1) 0 = omega arith in
        sym (nat_cmp_is _ _ Less under)

-- postings rise and are rows
pub rising_from_postings : (len : ℕ) (rows : List ℕ) → IsPostings len rows → IsStrictlySortedBy nat_cmp rows
rising_from_postings len rows h = subst (IsStrictlySortedBy nat_cmp) (sym h) (IsStrictlySortedBy-filter nat_cmp (is_among rows) (range_with_len 0 len) (range_rises 0 len))

pub below_from_postings : (len : ℕ) (rows : List ℕ) → IsPostings len rows → All (λ r. r < len) rows
below_from_postings len rows h = subst (All (λ r. r < len)) (sym h) (All-from_recursion (λ r. r < len) _ (kept_below (is_among rows) len))

at_is : (q : ℕ) (rows : List ℕ) → list_any (is_at (nat_cmp q)) rows ≡ is_among rows q
at_is q [] = refl
at_is q (r ∷ rs) = let here = equal q r in let later = at_is q rs in rw (here, later) refl
  where
    equal : (q r : ℕ) → is_at (nat_cmp q) r ≡ (r == q)
    equal q r = grind (arith, nat_tests)

none_above : (len : ℕ) (rows : List ℕ) (q : ℕ) → len ≤ q → All (λ r. r < len) rows → is_among rows q ≡ false
none_above len rows q le below = list_any_none (λ r. r == q) rows (λ k d lt. other (get_or rows k d) (below k d lt))
  where
    other : (r : ℕ) → r < len → (r == q) ≡ false
    other r lt = grind (arith, nat_tests)

-- and rows that rise are postings
pub postings_from_rising : (len : ℕ) (rows : List ℕ) → IsStrictlySortedBy nat_cmp rows → All (λ r. r < len) rows → IsPostings len rows
postings_from_rising len rows sorted below =
    btree_set_from_contains nat_cmp_total (record { keys = rows }) (record { keys = kept }) sorted (IsStrictlySortedBy-filter nat_cmp (is_among rows) (range_with_len 0 len) (range_rises 0 len)) (λ q. at_is q rows ∙ same q ∙ sym (at_is q kept)) exact_unsigned
  where
    kept : List ℕ
    kept = filter (is_among rows) (range_with_len 0 len)

    same : (q : ℕ) → is_among rows q ≡ is_among kept q
    same q =
        elim (cases_lt q len) [
          | inl lt ↦ sym (among_kept (is_among rows) len q lt)
          | inr le ↦ none_above len rows q le below ∙ sym (none_above len kept q le (All-from_recursion (λ r. r < len) _ (kept_below (is_among rows) len)))
        ]

-- ---- whether rows are the postings of a word, asked of the last row

module _ (len : ℕ) (rows : List ℕ) (last : ℕ) (at : Some last ≡ slice_get rows (length rows - 1)) where
  some_rows : 0 < length rows
  some_rows = omega (arith, slice_get_within rows (length rows - 1) last (sym at))

  last_row : get_or rows (length rows - 1) 0 ≡ last
  last_row = get_or_from_slice_get rows (length rows - 1) last 0 (sym at)

  pub part_by_order : last < len → (r : Bool) → (IsTrue r ↔ IsStrictlySortedBy nat_cmp rows) → IsTrue r ↔ IsPart len rows
  part_by_order under r rising = (λ e. (some_rows, postings_from_rising len rows (rising.0 e) (All-from_get_or (λ row. row < len) rows 0 (below (rising.0 e)))), λ part. rising.1 (rising_from_postings len rows part.1))
    where
      below : IsStrictlySortedBy nat_cmp rows → (k : ℕ) → k < length rows → get_or rows k 0 < len
      below sorted k lt =
          elim (cases_lt k (length rows - 1)) [
            | inl before ↦ (let more = below_from_sorted rows k (length rows - 1) 0 sorted before (let some = some_rows in omega arith) in omega (arith, last_row))
            | inr after ↦ (let same : k ≡ length rows - 1 = omega arith in rw same (omega (arith, last_row)))
          ]

  pub no_part : len ≤ last → IsPart len rows → ⊥
  no_part above part = let under = below_from_postings len rows part.1 (length rows - 1) 0 (let some = some_rows in omega arith) in absurd (omega (arith, last_row))
