-- A stable sort gives the list in order, and no other.
use Rattle.std.proofs.Common.{◌≡◌, ℕ, suc, ◌≤◌, ◌<◌, List, [], ◌∷◌, ◌++◌, length, get_or, Bool, true, false, cond, not, ◌&&◌, refl, sym, ◌∙◌, ap, arith, inl, inr, append-nil, append_assoc}
use Rattle.std.specs.Cmp.{IsStrictWeakOrder}
use Rattle.std.specs.List.{AllByRecursion, filter}
use Rattle.std.specs.List.Sorted.{ties, IsSortedBy, IsStableBy}
use Rattle.std.proofs.lemmas.Bool.{true≢false}
use Rattle.std.proofs.lemmas.List.Elements.{filter-append}
use Rattle.std.proofs.lemmas.List.Sorted.{sorted_far}
use Rattle.cat_model.specs.Ranks.{insert_by, insert_all, sorted}
use Rattle.cat_model.proofs.Insert.{which, strict_from_weak}
use Rattle.cat_model.proofs.Lists.{All-weaken, filter_none}
use Rattle.cat_search.specs.BestItems.{InOrder}
use Rattle.cat_search.proofs.InOrder.{in_order-insert, in_order-sorted}

left_off : (a b : Bool) → not a && not b ≡ true → a ≡ false
left_off true b e = sym e
left_off false b e = refl

right_off : (a b : Bool) → not a && not b ≡ true → b ≡ false
right_off true b e = absurd (true≢false (sym e))
right_off false true e = sym e
right_off false false e = refl

both_off : (a b : Bool) → a ≡ false → b ≡ false → not a && not b ≡ true
both_off a b e f = rw (e, f) refl

same_rest : {X : Type 0} (b : Bool) (u : X) (us vs : List X) → cond b (u ∷ us) us ≡ cond b (u ∷ vs) vs → us ≡ vs
same_rest true u us vs e = cc
same_rest false u us vs e = e

module _ {X : Type 0} (lt : X → X → Bool) (o : IsStrictWeakOrder lt) where
  itself : (x : X) → lt x x ≡ false
  itself = (strict_from_weak lt o).irreflexive

  ties_itself : (x : X) → ties lt x x ≡ true
  ties_itself x = both_off (lt x x) (lt x x) (itself x) (itself x)

  -- where something that ties with u is among what v comes first of, u doesn't come before v
  not_before : (u v : X) (ws : List X) (w : X) (rest : List X) → AllByRecursion (λ y. lt y v ≡ false) ws → filter (ties lt u) ws ≡ w ∷ rest → lt u v ≡ false
  not_before u v [] w rest a e = absurd (cc)
  not_before u v (y ∷ ys) w rest a e = elim (which (ties lt u y)) [
    | inl t ↦ o.chain u y v (left_off (lt u y) (lt y u) t) a.0
    | inr f ↦ not_before u v ys w rest a.1 (sym (ap (λ b. cond b (y ∷ filter (ties lt u) ys) (filter (ties lt u) ys)) f) ∙ e)
  ]

  first_kept : (u : X) (us : List X) → filter (ties lt u) (u ∷ us) ≡ u ∷ filter (ties lt u) us
  first_kept u us = ap (λ b. cond b (u ∷ filter (ties lt u) us) (filter (ties lt u) us)) (ties_itself u)

  -- two lists in order that have what ties alike are one
  same : (us vs : List X) → InOrder lt us → InOrder lt vs → ((x : X) → filter (ties lt x) us ≡ filter (ties lt x) vs) → us ≡ vs
  same [] [] a b h = refl
  same [] (v ∷ vs) a b h = let e : [] ≡ v ∷ filter (ties lt v) vs = h v ∙ first_kept v vs in absurd (cc)
  same (u ∷ us) [] a b h = let e : u ∷ filter (ties lt u) us ≡ [] = sym (first_kept u us) ∙ h u in absurd (cc)
  same (u ∷ us) (v ∷ vs) a b h =
      let uv : lt u v ≡ false = not_before u v (v ∷ vs) u (filter (ties lt u) us) (itself v, b.0) (sym (h u) ∙ first_kept u us) in
      let vu : lt v u ≡ false = not_before v u (u ∷ us) v (filter (ties lt v) vs) (itself u, a.0) (h v ∙ first_kept v vs) in
      let kept : filter (ties lt u) (v ∷ vs) ≡ v ∷ filter (ties lt u) vs = ap (λ b. cond b (v ∷ filter (ties lt u) vs) (filter (ties lt u) vs)) (both_off (lt u v) (lt v u) uv vu) in
      let heads : u ∷ filter (ties lt u) us ≡ v ∷ filter (ties lt u) vs = sym (first_kept u us) ∙ h u ∙ kept in
      let head : u ≡ v = cc in
      let tails : us ≡ vs = same us vs a.1 b.1 (λ x. same_rest (ties lt x u) u (filter (ties lt x) us) (filter (ties lt x) vs)
      (h x ∙ ap (λ w. cond (ties lt x w) (w ∷ filter (ties lt x) vs) (filter (ties lt x) vs)) (sym head))) in
      ap (λ w. w ∷ us) head ∙ ap (λ ws. v ∷ ws) tails

  -- ---- the list in order keeps what ties as it stands

  none_ties : (x y : X) (ws : List X) → ties lt x y ≡ true → AllByRecursion (λ w. lt y w ≡ true) ws → AllByRecursion (λ w. ties lt x w ≡ false) ws
  none_ties x y ws t a = All-weaken (λ w. lt y w ≡ true) (λ w. ties lt x w ≡ false) (λ w e. elim (which (ties lt x w)) [
    | inl s ↦ absurd (true≢false (sym e ∙ o.chain y x w (right_off (lt x y) (lt y x) t) (left_off (lt x w) (lt w x) s)))
    | inr f ↦ f
  ]) ws a

  moved : (x y : X) (ws : List X) → AllByRecursion (λ w. lt y w ≡ true) ws → filter (ties lt x) (y ∷ ws) ≡ filter (ties lt x) (ws ++ y ∷ [])
  moved x y ws a =
      let p = ties lt x in
      let whole : filter p (ws ++ y ∷ []) ≡ filter p ws ++ filter p (y ∷ []) = filter-append p ws (y ∷ []) in
      elim (which (ties lt x y)) [
        | inl t ↦
            let none : filter p ws ≡ [] = filter_none p ws (none_ties x y ws t a) in
            ap (λ zs. cond (p y) (y ∷ zs) zs) none ∙ ap (λ zs. zs ++ filter p (y ∷ [])) (sym none) ∙ sym whole
        | inr f ↦
            ap (λ b. cond b (y ∷ filter p ws) (filter p ws)) f ∙ sym (append-nil (filter p ws)) ∙ ap (λ b. filter p ws ++ cond b (y ∷ []) []) (sym f) ∙ sym whole
      ]

  after : (y z w : X) → lt y z ≡ true → lt w z ≡ false → lt y w ≡ true
  after y z w e f = elim (which (lt y w)) [
    | inl t ↦ t
    | inr g ↦ absurd (true≢false (sym e ∙ o.chain y w z g f))
  ]

  kept_by_insert : (x y : X) (ys : List X) → InOrder lt ys → filter (ties lt x) (insert_by lt y ys) ≡ filter (ties lt x) (ys ++ y ∷ [])
  kept_by_insert x y [] a = refl
  kept_by_insert x y (z ∷ zs) a = elim (which (lt y z)) [
    | inl e ↦ rw e (moved x y (z ∷ zs) (e, All-weaken (λ w. lt w z ≡ false) (λ w. lt y w ≡ true) (λ w f. after y z w e f) zs a.0))
    | inr e ↦ rw e (ap (λ ws. cond (ties lt x z) (z ∷ ws) ws) (kept_by_insert x y zs a.1))
  ]

  kept_by_insert_all : (x : X) (ys xs : List X) → InOrder lt ys → filter (ties lt x) (insert_all lt ys xs) ≡ filter (ties lt x) (ys ++ xs)
  kept_by_insert_all x ys [] a = ap (filter (ties lt x)) (sym (append-nil ys))
  kept_by_insert_all x ys (y ∷ xs) a =
      let p = ties lt x in
      kept_by_insert_all x (insert_by lt y ys) xs (in_order-insert lt o y ys a)
      ∙ filter-append p (insert_by lt y ys) xs
      ∙ ap (λ zs. zs ++ filter p xs) (kept_by_insert x y ys a)
      ∙ sym (filter-append p (ys ++ y ∷ []) xs)
      ∙ ap (filter p) (append_assoc ys (y ∷ []) xs)

  -- ---- a stable sort

  all_behind : (x : X) (xs : List X) → ((k : ℕ) → k < length xs → lt (get_or xs k x) x ≡ false) → AllByRecursion (λ y. lt y x ≡ false) xs
  all_behind x [] h = tt
  all_behind x (y ∷ xs) h = (h 0 (omega arith), all_behind x xs (λ k p. h (suc k) (omega arith)))

  in_order_of : (xs : List X) → ((i j : ℕ) (d : X) → i ≤ j → j < length xs → lt (get_or xs j d) (get_or xs i d) ≡ false) → InOrder lt xs
  in_order_of [] h = tt
  in_order_of (x ∷ xs) h = (all_behind x xs (λ k p. h 0 (suc k) x (omega arith) (omega arith)), in_order_of xs (λ i j d p q. h (suc i) (suc j) d (omega arith) (omega arith)))

  pub stable_sort : (xs ys : List X) → IsSortedBy lt ys → IsStableBy lt xs ys → ys ≡ sorted lt xs
  stable_sort xs ys up stable =
      same ys (sorted lt xs) (in_order_of ys (sorted_far lt o ys up)) (in_order-sorted lt o xs)
      (λ x. stable x ∙ sym (kept_by_insert_all x [] xs tt))
