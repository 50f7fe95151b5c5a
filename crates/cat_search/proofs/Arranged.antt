-- Elements of which no two tie may be put into a list in any order.
use Rattle.std.proofs.Common.{◌≡◌, ℕ, zero, suc, ◌<◌, List, [], ◌∷◌, ◌++◌, length, get_or, set, filter, cond, IsPermutation, AllPairs, Bool, true, false, refl, sym, ◌∙◌, ap, subst, arith, inl, inr}
use Rattle.std.specs.Prelude.{◌⊎◌}
use Rattle.std.specs.List.{AllByRecursion, swap}
use Rattle.std.proofs.lemmas.Bool.{true≢false}
use Rattle.std.proofs.lemmas.List.Sorted.{IsPermutation-keeps, IsPermutation-refl, IsPermutation-trans, IsPermutation-cons, IsPermutation-middle}
use Rattle.cat_model.specs.Ranks.{IsStrictOrder, AreApart, insert_by, insert_all, sorted}
use Rattle.cat_model.proofs.Insert.{which, one_way}
use Rattle.cat_model.proofs.Places.{AllApart}

module _ {X : Type 0} (lt : X → X → Bool) (o : IsStrictOrder lt) where
  in_front : (x w : X) (ws : List X) → lt x w ≡ true → insert_by lt x (w ∷ ws) ≡ x ∷ w ∷ ws
  in_front x w ws e = rw e refl

  past : (x w : X) (ws : List X) → lt x w ≡ false → insert_by lt x (w ∷ ws) ≡ w ∷ insert_by lt x ws
  past x w ws e = rw e refl

  -- two of which the one comes before the other may be put in either way
  put_below : (x y : X) (ws : List X) → lt x y ≡ true → insert_by lt y (insert_by lt x ws) ≡ insert_by lt x (insert_by lt y ws)
  put_below x y [] e = past y x [] (one_way lt o x y e) ∙ sym (in_front x y [] e)
  put_below x y (w ∷ ws) e =
      let f : lt y x ≡ false = one_way lt o x y e in
      elim (which (lt x w)) [
        | inl a ↦
            let left : insert_by lt y (insert_by lt x (w ∷ ws)) ≡ x ∷ insert_by lt y (w ∷ ws) = ap (insert_by lt y) (in_front x w ws a) ∙ past y x (w ∷ ws) f in
            elim (which (lt y w)) [
              | inl b ↦ left ∙ ap (λ us. x ∷ us) (in_front y w ws b) ∙ sym (ap (insert_by lt x) (in_front y w ws b) ∙ in_front x y (w ∷ ws) e)
              | inr b ↦ left ∙ ap (λ us. x ∷ us) (past y w ws b) ∙ sym (ap (insert_by lt x) (past y w ws b) ∙ in_front x w (insert_by lt y ws) a)
            ]
        | inr a ↦ elim (which (lt y w)) [
          | inl b ↦ absurd (true≢false (sym (o.transitive x y w e b) ∙ a))
          | inr b ↦
              ap (insert_by lt y) (past x w ws a) ∙ past y w (insert_by lt x ws) b ∙ ap (λ us. w ∷ us) (put_below x y ws e)
              ∙ sym (ap (insert_by lt x) (past y w ws b) ∙ past x w (insert_by lt y ws) a)
        ]
      ]

  put_either : (x y : X) (ws : List X) → AreApart lt x y → insert_by lt y (insert_by lt x ws) ≡ insert_by lt x (insert_by lt y ws)
  put_either x y ws (inl e) = put_below x y ws e
  put_either x y ws (inr e) = sym (put_below y x ws e)

  apart_back : (x y : X) → AreApart lt x y → AreApart lt y x
  apart_back x y (inl e) = inr e
  apart_back x y (inr e) = inl e

  -- the one list may be put in in place of the other: they put in the same, what is apart from each element of the one is so from those of
  -- the other, and the elements of the other are apart
  record MayStandFor (xs ys : List X) : Type 0 where
    same : (zs : List X) → insert_all lt zs xs ≡ insert_all lt zs ys
    beside : (x : X) → AllByRecursion (AreApart lt x) xs → AllByRecursion (AreApart lt x) ys
    apart : AllApart lt ys

  itself : (xs : List X) → AllApart lt xs → MayStandFor xs xs
  itself xs a = record { same = λ zs. refl; beside = λ x h. h; apart = a }

  through : (xs ys zs : List X) → MayStandFor xs ys → MayStandFor ys zs → MayStandFor xs zs
  through xs ys zs a b = record { same = λ ws. a.same ws ∙ b.same ws; beside = λ x h. b.beside x (a.beside x h); apart = b.apart }

  behind : (x : X) (xs ys : List X) → AllByRecursion (AreApart lt x) xs → MayStandFor xs ys → MayStandFor (x ∷ xs) (x ∷ ys)
  behind x xs ys h a = record {
    same = λ zs. a.same (insert_by lt x zs);
    beside = λ z k. (k.0, a.beside z k.1);
    apart = (a.beside x h, a.apart);
  }

  turned : (x y : X) (zs : List X) → AllApart lt (x ∷ y ∷ zs) → MayStandFor (x ∷ y ∷ zs) (y ∷ x ∷ zs)
  turned x y zs a = record {
    same = λ ws. ap (λ us. insert_all lt us zs) (put_either x y ws a.0.0);
    beside = λ z k. (k.1.0, (k.0, k.1.1));
    apart = ((apart_back x y a.0.0, a.1.0), (a.0.1, a.1.1));
  }

  -- the first element and a later one in each other's place
  first_with : (x : X) (xs : List X) (j : ℕ) (d : X) → j < length xs → AllApart lt (x ∷ xs) → MayStandFor (x ∷ xs) (get_or xs j d ∷ set xs j x)
  first_with x [] j d h a = absurd (omega arith)
  first_with x (y ∷ ys) zero d h a = turned x y ys a
  first_with x (y ∷ ys) (suc j) d h a =
      let once = turned x y ys a in
      let next = first_with x ys j d (omega arith) once.apart.1 in
      let then = behind y (x ∷ ys) (get_or ys j d ∷ set ys j x) once.apart.0 next in
      through _ _ _ once (through _ _ _ then (turned y (get_or ys j d) (set ys j x) then.apart))

  -- two elements in each other's place
  with_exchanged : (l : List X) (i j : ℕ) (d : X) → i < length l → j < length l → AllApart lt l → MayStandFor l (set (set l i (get_or l j d)) j (get_or l i d))
  with_exchanged [] i j d p q a = absurd (omega arith)
  with_exchanged (x ∷ xs) zero zero d p q a = itself (x ∷ xs) a
  with_exchanged (x ∷ xs) zero (suc j) d p q a = first_with x xs j d (omega arith) a
  with_exchanged (x ∷ xs) (suc i) zero d p q a = first_with x xs i d (omega arith) a
  with_exchanged (x ∷ xs) (suc i) (suc j) d p q a = behind x xs _ a.0 (with_exchanged xs i j d (omega arith) (omega arith) a.1)

  with_swapped : (l : List X) (i j : ℕ) → i < length l → j < length l → AllApart lt l → MayStandFor l (swap l i j)
  with_swapped [] i j p q a = absurd (omega arith)
  with_swapped (x ∷ xs) i j p q a = with_exchanged (x ∷ xs) i j x p q a

  arranged : (more other : List X) → AllApart lt more → IsPermutation more other → MayStandFor more other
  arranged more other a same =
      IsPermutation-keeps more (MayStandFor more) (itself more a) (λ l i j p q h. through more l (swap l i j) h (with_swapped l i j p q h.apart)) other same

  pub stays_apart : (more other : List X) → AllApart lt more → IsPermutation more other → AllApart lt other
  stays_apart more other a same = (arranged more other a same).apart

  split_put : (ys us vs : List X) → insert_all lt ys (us ++ vs) ≡ insert_all lt (insert_all lt ys us) vs
  split_put ys [] vs = refl
  split_put ys (x ∷ us) vs = split_put (insert_by lt x ys) us vs

  pub may_be_arranged : (offered more other : List X) → AllApart lt more → IsPermutation more other → sorted lt (offered ++ more) ≡ sorted lt (offered ++ other)
  may_be_arranged offered more other a same =
      split_put [] offered more ∙ (arranged more other a same).same (sorted lt offered) ∙ sym (split_put [] offered other)

-- ---- what passes a test, in another order

module _ {X : Type 0} (p : X → Bool) where
  abbrev Passes : List X → List X → Type 0
  Passes us vs = IsPermutation (filter p us) (filter p vs)

  joined : (us vs ws : List X) → Passes us vs → Passes vs ws → Passes us ws
  joined us vs ws a b = IsPermutation-trans (filter p us) (filter p vs) (filter p ws) a b

  one_more : (y : X) (us vs : List X) → Passes us vs → Passes (y ∷ us) (y ∷ vs)
  one_more y us vs h = elim (p y) as (λ b. IsPermutation (cond b (y ∷ filter p us) (filter p us)) (cond b (y ∷ filter p vs) (filter p vs))) [
    | true ↦ IsPermutation-cons y (filter p us) (filter p vs) h
    | false ↦ h
  ]

  two_turned : (x y : X) (zs : List X) → Passes (x ∷ y ∷ zs) (y ∷ x ∷ zs)
  two_turned x y zs = by (p x) (p y)
    where
      by : (b c : Bool) → IsPermutation (cond b (x ∷ cond c (y ∷ filter p zs) (filter p zs)) (cond c (y ∷ filter p zs) (filter p zs))) (cond c (y ∷ cond b (x ∷ filter p zs) (filter p zs)) (cond b (x ∷ filter p zs) (filter p zs)))
      by true true = IsPermutation-middle (x ∷ []) y (filter p zs)
      by true false = IsPermutation-refl (x ∷ filter p zs)
      by false true = IsPermutation-refl (y ∷ filter p zs)
      by false false = IsPermutation-refl (filter p zs)

  first_passes : (x : X) (xs : List X) (j : ℕ) (d : X) → j < length xs → Passes (x ∷ xs) (get_or xs j d ∷ set xs j x)
  first_passes x [] j d h = absurd (omega arith)
  first_passes x (y ∷ ys) zero d h = two_turned x y ys
  first_passes x (y ∷ ys) (suc j) d h =
      let z = get_or ys j d in
      let us = set ys j x in
      joined (x ∷ y ∷ ys) (y ∷ x ∷ ys) (z ∷ y ∷ us) (two_turned x y ys)
      (joined (y ∷ x ∷ ys) (y ∷ z ∷ us) (z ∷ y ∷ us) (one_more y (x ∷ ys) (z ∷ us) (first_passes x ys j d (omega arith))) (two_turned y z us))

  exchanged_passes : (l : List X) (i j : ℕ) (d : X) → i < length l → j < length l → Passes l (set (set l i (get_or l j d)) j (get_or l i d))
  exchanged_passes [] i j d q r = absurd (omega arith)
  exchanged_passes (x ∷ xs) zero zero d q r = IsPermutation-refl (filter p (x ∷ xs))
  exchanged_passes (x ∷ xs) zero (suc j) d q r = first_passes x xs j d (omega arith)
  exchanged_passes (x ∷ xs) (suc i) zero d q r = first_passes x xs i d (omega arith)
  exchanged_passes (x ∷ xs) (suc i) (suc j) d q r = one_more x xs _ (exchanged_passes xs i j d (omega arith) (omega arith))

  swapped_passes : (l : List X) (i j : ℕ) → i < length l → j < length l → Passes l (swap l i j)
  swapped_passes [] i j q r = absurd (omega arith)
  swapped_passes (x ∷ xs) i j q r = exchanged_passes (x ∷ xs) i j x q r

  pub IsPermutation-filter : (xs ys : List X) → IsPermutation xs ys → IsPermutation (filter p xs) (filter p ys)
  IsPermutation-filter xs ys same =
      IsPermutation-keeps xs (Passes xs) (IsPermutation-refl (filter p xs)) (λ l i j q r h. joined xs l (swap l i j) h (swapped_passes l i j q r)) ys same
