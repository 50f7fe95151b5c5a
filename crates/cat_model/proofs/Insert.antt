-- Putting an element into a list in order.
use Rattle.std.proofs.Common.{◌≡◌, ℕ, zero, suc, List, [], ◌∷◌, ◌++◌, take, Bool, true, false, cond, refl, sym, ◌∙◌, ap, subst, inl, inr, append-nil}
use Rattle.std.specs.Prelude.{◌⊎◌}
use Rattle.std.specs.Cmp.{IsStrictWeakOrder}
use Rattle.std.specs.List.{AllByRecursion}
use Rattle.std.specs.List.Sorted.{IsPermutation}
use Rattle.std.proofs.lemmas.Bool.{true≢false}
use Rattle.std.proofs.lemmas.List.Sorted.{IsPermutation-refl, IsPermutation-trans, IsPermutation-cons, IsPermutation-middle, IsPermutation-append}
use Rattle.cat_model.specs.Ranks.{IsStrictOrder, AreApart, insert_by, insert_all, sorted}
use Rattle.cat_model.proofs.Lists.{All-weaken}
use Rattle.cat_model.proofs.Places.{AllApart, Rises}

-- a Bool with the fact of which it is
pub which : (b : Bool) → (b ≡ true) ⊎ (b ≡ false)
which true = inl refl
which false = inr refl

pub each_insert : {X : Type 0} (P : X → Type 0) (lt : X → X → Bool) (x : X) (ys : List X) → P x → AllByRecursion P ys → AllByRecursion P (insert_by lt x ys)
each_insert P lt x [] p a = (p, tt)
each_insert P lt x (y ∷ ys) p a =
    elim (lt x y) as (λ b. AllByRecursion P (cond b (x ∷ y ∷ ys) (y ∷ insert_by lt x ys))) [
      | true ↦ (p, a)
      | false ↦ (a.0, each_insert P lt x ys p a.1)
    ]

-- the list in order has the elements of the list

permutes-insert : {X : Type 0} (lt : X → X → Bool) (x : X) (ys : List X) → IsPermutation (x ∷ ys) (insert_by lt x ys)
permutes-insert lt x [] = IsPermutation-refl (x ∷ [])
permutes-insert lt x (y ∷ ys) =
    elim (lt x y) as (λ b. IsPermutation (x ∷ y ∷ ys) (cond b (x ∷ y ∷ ys) (y ∷ insert_by lt x ys))) [
      | true ↦ IsPermutation-refl (x ∷ y ∷ ys)
      | false ↦ IsPermutation-trans _ _ _ (IsPermutation-middle (x ∷ []) y ys) (IsPermutation-cons y _ _ (permutes-insert lt x ys))
    ]

permutes-insert_all : {X : Type 0} (lt : X → X → Bool) (ys xs : List X) → IsPermutation (ys ++ xs) (insert_all lt ys xs)
permutes-insert_all lt ys [] = subst (λ zs. IsPermutation zs ys) (sym (append-nil ys)) (IsPermutation-refl ys)
permutes-insert_all lt ys (x ∷ xs) =
    IsPermutation-trans _ _ _ (IsPermutation-middle ys x xs)
    (IsPermutation-trans _ _ _ (IsPermutation-append (x ∷ ys) (insert_by lt x ys) xs xs (permutes-insert lt x ys) (IsPermutation-refl xs)) (permutes-insert_all lt (insert_by lt x ys) xs))

pub permutes-sorted : {X : Type 0} (lt : X → X → Bool) (xs : List X) → IsPermutation xs (sorted lt xs)
permutes-sorted lt xs = permutes-insert_all lt [] xs

-- one more goes to its place

pub sorted-push : {X : Type 0} (lt : X → X → Bool) (ys xs : List X) (x : X) → insert_all lt ys (xs ++ x ∷ []) ≡ insert_by lt x (insert_all lt ys xs)
sorted-push lt ys [] x = refl
sorted-push lt ys (z ∷ zs) x = sorted-push lt (insert_by lt z ys) zs x

-- the first n after an element is put in need the first n alone

take-cons : {X : Type 0} (n : ℕ) (y : X) (ys : List X) → take n (y ∷ take n ys) ≡ take n (y ∷ ys)
take-cons zero y ys = refl
take-cons (suc n) y [] = refl
take-cons (suc n) y (z ∷ zs) = ap (λ us. y ∷ us) (take-cons n z zs)

pub take-insert : {X : Type 0} (lt : X → X → Bool) (n : ℕ) (x : X) (ys : List X) → take n (insert_by lt x (take n ys)) ≡ take n (insert_by lt x ys)
take-insert lt zero x ys = refl
take-insert lt (suc n) x [] = refl
take-insert lt (suc n) x (y ∷ ys) =
    elim (lt x y) as (λ b. take (suc n) (cond b (x ∷ y ∷ take n ys) (y ∷ insert_by lt x (take n ys))) ≡ take (suc n) (cond b (x ∷ y ∷ ys) (y ∷ insert_by lt x ys))) [
      | true ↦ ap (λ zs. x ∷ zs) (take-cons n y ys)
      | false ↦ ap (λ zs. y ∷ zs) (take-insert lt n x ys)
    ]

-- a strict weak order is a strict order
pub strict_from_weak : {X : Type 0} (lt : X → X → Bool) → IsStrictWeakOrder lt → IsStrictOrder lt
strict_from_weak {X} lt o = record {
  irreflexive = λ x. elim (which (lt x x)) [ inl e ↦ o.one_way x x e | inr e ↦ e ];
  transitive = λ x y z p q. elim (which (lt x z)) [
    | inl e ↦ e
    | inr e ↦ absurd (true≢false (sym p ∙ o.chain x z y e (o.one_way y z q)))
  ];
}

module _ {X : Type 0} (lt : X → X → Bool) (o : IsStrictOrder lt) where
  pub one_way : (x y : X) → lt x y ≡ true → lt y x ≡ false
  one_way x y p = elim (which (lt y x)) [
    | inl e ↦ absurd (true≢false (sym (o.transitive x y x p e) ∙ o.irreflexive x))
    | inr e ↦ e
  ]

  one_of : (x y : X) → AreApart lt x y → lt x y ≡ false → lt y x ≡ true
  one_of x y (inl t) e = absurd (true≢false (sym t ∙ e))
  one_of x y (inr t) e = t

  swap_apart : (x y : X) → AreApart lt x y → AreApart lt y x
  swap_apart x y (inl t) = inr t
  swap_apart x y (inr t) = inl t

  pub rises-insert : (x : X) (ys : List X) → AllByRecursion (AreApart lt x) ys → Rises lt ys → Rises lt (insert_by lt x ys)
  rises-insert x [] a r = (tt, tt)
  rises-insert x (y ∷ ys) a r = elim (which (lt x y)) [
    | inl e ↦ rw e ((e, All-weaken (λ z. lt y z ≡ true) (λ z. lt x z ≡ true) (λ z h. o.transitive x y z e h) ys r.0), r)
    | inr e ↦ rw e (each_insert (λ z. lt y z ≡ true) lt x ys (one_of x y a.0 e) r.0, rises-insert x ys a.1 r.1)
  ]

  both : (x : X) (ys xs : List X) → AllByRecursion (λ z. AllByRecursion (AreApart lt z) ys) xs → AllByRecursion (AreApart lt x) xs → AllByRecursion (λ z. AllByRecursion (AreApart lt z) (insert_by lt x ys)) xs
  both x ys [] a b = tt
  both x ys (z ∷ zs) a b = (each_insert (AreApart lt z) lt x ys (swap_apart x z b.0) a.0, both x ys zs a.1 b.1)

  -- each of xs is apart from each of ys
  pub rises-insert_all : (ys xs : List X) → Rises lt ys → AllByRecursion (λ x. AllByRecursion (AreApart lt x) ys) xs → AllApart lt xs → Rises lt (insert_all lt ys xs)
  rises-insert_all ys [] r a b = r
  rises-insert_all ys (x ∷ xs) r a b = rises-insert_all (insert_by lt x ys) xs (rises-insert x ys a.0 r) (both x ys xs a.1 b.0) b.1

  each_each : (xs : List X) → AllByRecursion (λ x. AllByRecursion (AreApart lt x) []) xs
  each_each [] = tt
  each_each (x ∷ xs) = (tt, each_each xs)

  pub rises-sorted : (xs : List X) → AllApart lt xs → Rises lt (sorted lt xs)
  rises-sorted xs a = rises-insert_all [] xs tt (each_each xs) a
