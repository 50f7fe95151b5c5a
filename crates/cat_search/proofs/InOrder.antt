-- Items in order.
use Rattle.std.proofs.Common.{◌≡◌, ℕ, zero, suc, ◌-◌, ◌<◌, List, [], ◌∷◌, ◌++◌, length, get_or, take, Bool, false, refl, sym, ◌∙◌, ap, subst, arith, inl, inr, append-nil, append_assoc}
use Rattle.std.specs.Cmp.{IsStrictWeakOrder}
use Rattle.std.specs.List.{AllByRecursion}
use Rattle.cat_model.specs.Ranks.{insert_by, insert_all, sorted}
use Rattle.cat_model.proofs.Insert.{which, each_insert}
use Rattle.cat_model.proofs.Lists.{All-weaken}
use Rattle.cat_search.specs.BestItems.{InOrder}

pub each_take : {X : Type 0} (P : X → Type 0) (n : ℕ) (xs : List X) → AllByRecursion P xs → AllByRecursion P (take n xs)
each_take P zero xs a = tt
each_take P (suc n) [] a = tt
each_take P (suc n) (x ∷ xs) a = (a.0, each_take P n xs a.1)

each_middle : {X : Type 0} (P : X → Type 0) (ys : List X) (x : X) (xs : List X) → AllByRecursion P (ys ++ x ∷ xs) → P x
each_middle P [] x xs a = a.0
each_middle P (y ∷ ys) x xs a = each_middle P ys x xs a.1

-- what comes before nothing goes to the end
pub insert_last : {X : Type 0} (lt : X → X → Bool) (x : X) (ys : List X) → AllByRecursion (λ y. lt x y ≡ false) ys → insert_by lt x ys ≡ ys ++ x ∷ []
insert_last lt x [] a = refl
insert_last lt x (y ∷ ys) a = let e : lt x y ≡ false = a.0 in rw e (ap (λ zs. y ∷ zs) (insert_last lt x ys a.1))

pub take_first : {X : Type 0} (n : ℕ) (xs : List X) (x : X) → length xs ≡ n → take n (xs ++ x ∷ []) ≡ xs
take_first zero [] x e = refl
take_first zero (y ∷ ys) x e = absurd (omega arith)
take_first (suc n) [] x e = absurd (omega arith)
take_first (suc n) (y ∷ ys) x e = let h : length ys ≡ n = omega arith in ap (λ zs. y ∷ zs) (take_first n ys x h)

pub insert_all-append : {X : Type 0} (lt : X → X → Bool) (ys xs zs : List X) → insert_all lt ys (xs ++ zs) ≡ insert_all lt (insert_all lt ys xs) zs
insert_all-append lt ys [] zs = refl
insert_all-append lt ys (x ∷ xs) zs = insert_all-append lt (insert_by lt x ys) xs zs

-- ---- a list that is in order stays as it is

before_none : {X : Type 0} (lt : X → X → Bool) (ys : List X) (x : X) (xs : List X) → InOrder lt (ys ++ x ∷ xs) → AllByRecursion (λ y. lt x y ≡ false) ys
before_none lt [] x xs a = tt
before_none lt (y ∷ ys) x xs a = (each_middle (λ z. lt z y ≡ false) ys x xs a.0, before_none lt ys x xs a.1)

stays : {X : Type 0} (lt : X → X → Bool) (ys xs : List X) → InOrder lt (ys ++ xs) → insert_all lt ys xs ≡ ys ++ xs
stays lt ys [] a = sym (append-nil ys)
stays lt ys (x ∷ xs) a =
    let assoc : (ys ++ x ∷ []) ++ xs ≡ ys ++ x ∷ xs = append_assoc ys (x ∷ []) xs in
    ap (λ zs. insert_all lt zs xs) (insert_last lt x ys (before_none lt ys x xs a)) ∙ stays lt (ys ++ x ∷ []) xs (subst (InOrder lt) (sym assoc) a) ∙ assoc

pub sorted-in_order : {X : Type 0} (lt : X → X → Bool) (xs : List X) → InOrder lt xs → sorted lt xs ≡ xs
sorted-in_order lt xs a = stays lt [] xs a

module _ {X : Type 0} (lt : X → X → Bool) (o : IsStrictWeakOrder lt) where
  pub in_order-insert : (x : X) (ys : List X) → InOrder lt ys → InOrder lt (insert_by lt x ys)
  in_order-insert x [] a = (tt, tt)
  in_order-insert x (y ∷ ys) a = elim (which (lt x y)) [
    | inl e ↦ rw e ((o.one_way x y e, All-weaken (λ z. lt z y ≡ false) (λ z. lt z x ≡ false) (λ z h. o.chain z y x h (o.one_way x y e)) ys a.0), a)
    | inr e ↦ rw e (each_insert (λ z. lt z y ≡ false) lt x ys e a.0, in_order-insert x ys a.1)
  ]

  pub in_order-take : (n : ℕ) (ys : List X) → InOrder lt ys → InOrder lt (take n ys)
  in_order-take zero ys a = tt
  in_order-take (suc n) [] a = tt
  in_order-take (suc n) (y ∷ ys) a = (each_take (λ z. lt z y ≡ false) n ys a.0, in_order-take n ys a.1)

  in_order-insert_all : (ys xs : List X) → InOrder lt ys → InOrder lt (insert_all lt ys xs)
  in_order-insert_all ys [] a = a
  in_order-insert_all ys (x ∷ xs) a = in_order-insert_all (insert_by lt x ys) xs (in_order-insert x ys a)

  pub in_order-sorted : (xs : List X) → InOrder lt (sorted lt xs)
  in_order-sorted xs = in_order-insert_all [] xs tt

  pub not_before_last : (x : X) (ys : List X) (d : X) → InOrder lt ys → 0 < length ys → lt x (get_or ys (length ys - 1) d) ≡ false → AllByRecursion (λ y. lt x y ≡ false) ys
  not_before_last x [] d a h e = tt
  not_before_last x (y ∷ []) d a h e = (e, tt)
  not_before_last x (y ∷ z ∷ zs) d a h e =
      let s : length (y ∷ z ∷ zs) - 1 ≡ suc (length (z ∷ zs) - 1) = omega arith in
      let f : lt x (get_or (y ∷ z ∷ zs) (suc (length (z ∷ zs) - 1)) d) ≡ false = rw s at e in
      let r : AllByRecursion (λ w. lt x w ≡ false) (z ∷ zs) = not_before_last x (z ∷ zs) d a.1 (omega arith) f in
      (o.chain x z y r.0 a.0.0, r)
