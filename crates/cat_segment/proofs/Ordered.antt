-- What the rows in the order of their ids say of the ids.
use Rattle.std.proofs.Common.{◌≡◌, ◌≢◌, ◌+◌, ◌<◌, ◌⊎◌, inl, inr, ℕ, Bool, true, false, List, [], length, map, get_or, refl, sym, ap, ◌∙◌, subst, arith, Ordering, Less, Equal, Greater}
use Rattle.std.specs.Prelude.{All, Err}
use Rattle.std.specs.Cmp.{tied_itself}
use Rattle.std.specs.Cmp.Lexicographic.{nat_list_cmp_total}
use Rattle.std.specs.List.{AllPairs, AllAdjacentBelow, range_with_len, swap}
use Rattle.std.specs.List.Sorted.{IsPermutation, IsSortedBy, IsBinarySearchResult}
use Rattle.std.specs.Ordering.{is_lt, ordering_reverse}
use Rattle.std.proofs.lemmas.Bool.{true≢false, cases_eq, cases_lt, cases_order}
use Rattle.std.proofs.lemmas.List.{length-map, get_or-map, get_or_default}
use Rattle.std.proofs.lemmas.List.Edits.{swapped_from_swap, length-swap}
use Rattle.std.proofs.lemmas.List.FromFn.{fill_by_all, get_or-range_with_len, length-range_with_len}
use Rattle.std.proofs.lemmas.List.Sorted.{IsPermutation-keeps, IsPermutation-map, IsPermutation-sym, All-permutation, Contains-permutation, ranks_by, sorted_far, searchable_from_sorted}
use Rattle.std.proofs.lemmas.Map.Lookups.{exact_bytes}
use Rattle.cat_model.specs.Text.{Text, text_cmp}
use Rattle.cat_model.specs.Ordinals.{text_at}
use Rattle.cat_segment.specs.Index.{IsIndex}

-- ---- a list without doubles

abbrev IsOnce : {X : Type 0} → List X → Type 0
IsOnce {X} xs = (d : X) (i j : ℕ) → i < length xs → j < length xs → get_or xs i d ≡ get_or xs j d → i ≡ j

-- what stands at a place after an exchange
abbrev Came : {X : Type 0} → List X → ℕ → ℕ → X → X → ℕ → Type 0
Came xs a b d y m = ((m ≡ a) × (y ≡ get_or xs b d)) ⊎ (((m ≢ a) × (m ≡ b) × (y ≡ get_or xs a d)) ⊎ ((m ≢ a) × (m ≢ b) × (y ≡ get_or xs m d)))

once_swapped : {X : Type 0} (xs : List X) (a b : ℕ) → a < length xs → b < length xs → IsOnce xs → IsOnce (swap xs a b)
once_swapped {X} xs a b ina inb once d i j ini inj same = by (came i) (came j)
  where
    long : length (swap xs a b) ≡ length xs
    long = length-swap xs a b

    came : (m : ℕ) → Came xs a b d (get_or (swap xs a b) m d) m
    came m =
        let moved = swapped_from_swap xs (swap xs a b) a b d ina inb refl in
        elim (cases_eq m a) [
          | inl here ↦ inl (here, ap (λ k. get_or (swap xs a b) k d) here ∙ moved.0)
          | inr off ↦ elim (cases_eq m b) [
            | inl there ↦ inr (inl (off, there, ap (λ k. get_or (swap xs a b) k d) there ∙ moved.1))
            | inr apart ↦ inr (inr (off, apart, moved.2 m off apart))
          ]
        ]

    by : Came xs a b d (get_or (swap xs a b) i d) i → Came xs a b d (get_or (swap xs a b) j d) j → i ≡ j
    by (inl p) (inl q) = p.0 ∙ sym q.0
    by (inl p) (inr (inl q)) = let e = once d b a inb ina (sym p.1 ∙ same ∙ q.2) in omega (arith, e, p.0, q.1)
    by (inl p) (inr (inr q)) = absurd (q.1 (sym (once d b j inb (omega (arith, long)) (sym p.1 ∙ same ∙ q.2))))
    by (inr (inl p)) (inl q) = let e = once d a b ina inb (sym p.2 ∙ same ∙ q.1) in omega (arith, e, p.1, q.0)
    by (inr (inl p)) (inr (inl q)) = p.1 ∙ sym q.1
    by (inr (inl p)) (inr (inr q)) = absurd (q.0 (sym (once d a j ina (omega (arith, long)) (sym p.2 ∙ same ∙ q.2))))
    by (inr (inr p)) (inl q) = absurd (p.1 (once d i b (omega (arith, long)) inb (sym p.2 ∙ same ∙ q.1)))
    by (inr (inr p)) (inr (inl q)) = absurd (p.0 (once d i a (omega (arith, long)) ina (sym p.2 ∙ same ∙ q.2)))
    by (inr (inr p)) (inr (inr q)) = once d i j (omega (arith, long)) (omega (arith, long)) (sym p.2 ∙ same ∙ q.2)

once_from : {X : Type 0} (xs : List X) → AllPairs (λ a b. a ≢ b) xs → IsOnce xs
once_from xs pairs d i j ini inj same =
    elim (cases_order i j) [
      | inl e ↦ e
      | inr other ↦ elim other [
        | inl under ↦ absurd (pairs i j d under inj same)
        | inr over ↦ absurd (pairs j i d over ini (sym same))
      ]
    ]

-- in another order, what differs differs
pub AllPairs-permutation : {X : Type 0} (xs ys : List X) → IsPermutation xs ys → AllPairs (λ a b. a ≢ b) xs → AllPairs (λ a b. a ≢ b) ys
AllPairs-permutation xs ys moved pairs i j d lt within same =
    let once = IsPermutation-keeps xs IsOnce (once_from xs pairs) (λ l a b ina inb h. once_swapped l a b ina inb h) ys moved in
    let e : i ≡ j = once d i j (omega arith) within same in
    omega arith

-- ---- the order of texts

apart : (x y : Text) → text_cmp x y ≡ Less → x ≢ y
apart x y less e = let tie = ap (λ z. text_cmp x z) (sym e) ∙ tied_itself nat_list_cmp_total x in let no : Equal ≡ Less = sym tie ∙ less in cc

is_less : (o : Ordering) → is_lt o ≡ true → o ≡ Less
is_less Less e = refl
is_less Equal e = absurd (true≢false (sym e))
is_less Greater e = absurd (true≢false (sym e))

-- where neither comes first they are one
tied : (x y : Text) → is_lt (text_cmp x y) ≡ false → is_lt (text_cmp y x) ≡ false → x ≡ y
tied x y neither other = exact_bytes x y (by (text_cmp x y) neither (sym (ap is_lt (nat_list_cmp_total.antisymm y x)) ∙ other))
  where
    by : (o : Ordering) → is_lt o ≡ false → is_lt (ordering_reverse o) ≡ false → o ≡ Equal
    by Less neither other = absurd (true≢false neither)
    by Equal neither other = refl
    by Greater neither other = absurd (true≢false other)

-- ---- texts in order

abbrev pub lower : Text → Text → Bool
lower a b = is_lt (text_cmp a b)

module _ (texts : List Text) (rising : IsSortedBy lower texts) where
  -- texts differ just where neighbours in their order do
  pub texts_differ : AllAdjacentBelow (λ a b. lower a b ≡ true) texts (length texts) → AllPairs (λ a b. a ≢ b) texts
  texts_differ rises i j d lt within same =
      let step : lower (get_or texts i d) (get_or texts (i + 1) d) ≡ true = rises i d (omega arith) in
      let far : lower (get_or texts j d) (get_or texts (i + 1) d) ≡ false = sorted_far lower (ranks_by nat_list_cmp_total (λ t. t)) texts rising (i + 1) j d (omega arith) within in
      true≢false (sym step ∙ ap (λ t. lower t (get_or texts (i + 1) d)) same ∙ far)

  pub texts_meet : AllPairs (λ a b. a ≢ b) texts → (k : ℕ) → k + 1 < length texts → lower (get_or texts k []) (get_or texts (k + 1) []) ≡ false → ⊥
  texts_meet pairs k within level =
      pairs k (k + 1) [] (omega arith) within (tied (get_or texts k []) (get_or texts (k + 1) []) level (rising k [] (omega arith) within))

-- ---- the index

abbrev pub rank : List Text → ℕ → ℕ → Bool
rank ids a b = is_lt (text_cmp (text_at ids a) (text_at ids b))

module _ (ids : List Text) (by_id : List ℕ) (all : IsPermutation (range_with_len 0 (length ids)) by_id) where
  -- each row is one of the ids'
  pub rows_within : All (λ row. row < length ids) by_id
  rows_within = All-permutation (λ row. row < length ids) (range_with_len 0 (length ids)) by_id all
      (λ k d lt. omega (arith, get_or-range_with_len 0 (length ids) k d (omega (arith, length-range_with_len 0 (length ids))), length-range_with_len 0 (length ids)))

  -- read in this order, the ids are what they are in the rows' order, each as often
  pub same_ids : IsPermutation ids (map (text_at ids) by_id)
  same_ids = subst (λ l. IsPermutation l (map (text_at ids) by_id)) read (IsPermutation-map (text_at ids) (range_with_len 0 (length ids)) by_id all)
    where
      read : map (text_at ids) (range_with_len 0 (length ids)) ≡ ids
      read = sym (fill_by_all (text_at ids) ids (length ids) [] refl (λ k lt. refl))

module _ (ids : List Text) (by_id : List ℕ) (is : IsIndex ids by_id) where
  at : (k d : ℕ) → k < length by_id → get_or (map (text_at ids) by_id) k [] ≡ text_at ids (get_or by_id k d)
  at k d lt = get_or-map (text_at ids) by_id k d [] lt

  -- a search that finds nothing proves that no row has the id
  pub id_absent : (id : Text) (index : ℕ) → IsBinarySearchResult (λ row. text_cmp (text_at ids row) id) by_id (Err index) → All (λ i. i ≢ id) ids
  id_absent id index parted k d lt same =
      let has = Contains-permutation ids (map (text_at ids) by_id) id (same_ids ids by_id is.rows) (k, lt, get_or_default ids k id d lt ∙ same) in
      let within : has.0 < length by_id = omega (arith, has.1, length-map by_id (text_at ids)) in
      let here : text_at ids (get_or by_id has.0 0) ≡ id = sym (at has.0 0 within) ∙ get_or_default (map (text_at ids) by_id) has.0 [] id has.1 ∙ has.2 in
      let tie : text_cmp (text_at ids (get_or by_id has.0 0)) id ≡ Equal = ap (λ x. text_cmp x id) here ∙ tied_itself nat_list_cmp_total id in
      let parts = parted (searchable_from_sorted nat_list_cmp_total (text_at ids) by_id id is.rising) in
      elim (cases_lt has.0 index) [
        | inl under ↦ let less = parts.0 has.0 0 (omega arith) under in cc
        | inr over ↦ let more = parts.1 has.0 0 over within in cc
      ]

  -- ids differ just where neighbours in their order do
  pub ids_differ : AllAdjacentBelow (λ a b. rank ids a b ≡ true) by_id (length by_id) → AllPairs (λ a b. a ≢ b) ids
  ids_differ rises =
      AllPairs-permutation (map (text_at ids) by_id) ids (IsPermutation-sym ids (map (text_at ids) by_id) (same_ids ids by_id is.rows)) apart_all
    where
      apart_all : AllPairs (λ a b. a ≢ b) (map (text_at ids) by_id)
      apart_all i j d lt within same =
          let inj : j < length by_id = omega (arith, length-map by_id (text_at ids)) in
          let x = get_or-map (text_at ids) by_id i 0 d (omega arith) in
          let y = get_or-map (text_at ids) by_id j 0 d inj in
          let one : text_at ids (get_or by_id i 0) ≡ text_at ids (get_or by_id j 0) = sym x ∙ same ∙ y in
          let step : rank ids (get_or by_id i 0) (get_or by_id (i + 1) 0) ≡ true = rises i 0 (omega arith) in
          let far : rank ids (get_or by_id j 0) (get_or by_id (i + 1) 0) ≡ false = sorted_far (rank ids) (ranks_by nat_list_cmp_total (text_at ids)) by_id is.rising (i + 1) j 0 (omega arith) inj in
          true≢false (sym step ∙ ap (λ t. is_lt (text_cmp t (text_at ids (get_or by_id (i + 1) 0)))) one ∙ far)

  pub ids_meet : AllPairs (λ a b. a ≢ b) ids → (k : ℕ) → k + 1 < length by_id → rank ids (get_or by_id k 0) (get_or by_id (k + 1) 0) ≡ false → ⊥
  ids_meet pairs k within level =
      let differ = AllPairs-permutation ids (map (text_at ids) by_id) (same_ids ids by_id is.rows) pairs in
      let same = tied (text_at ids (get_or by_id k 0)) (text_at ids (get_or by_id (k + 1) 0)) level (is.rising k 0 (omega arith) within) in
      differ k (k + 1) [] (omega arith) (omega (arith, length-map by_id (text_at ids))) (at k 0 (omega arith) ∙ same ∙ sym (at (k + 1) 0 within))
